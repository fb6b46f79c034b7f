-- The measure of `writing::put_digits` is the number.
use Rattle.writing.proofs.+put_digits.Given as goal

abbrev pub decreases-put_digits : goal.decreases-put_digits
decreases-put_digits l = l.n
