-- The reader: what it answers at each refusal, what it may write, and its outcome.
use mathlib.Core.Path.{◌≡◌, ap, sym, ◌∙◌}
use mathlib.Core.Bool.{Bool}
use mathlib.Core.List.{List}
use Prim.Native.Nat.{ℕ, ◌*◌, ◌≤◌}
use native.Mathlib.Omega.{arith}
use lib.ListN.{length, drop}
use borrow.Author.Tests.{eq-eqb, ne_eqb}
use Rattle.rules.specs.declared.Refusal.{Refusal}
use Rattle.rules.specs.Refusals.{refusal_number}
use Rattle.rules.specs.Words.{unless, over}
use Rattle.rules.specs.Picture.{rest_of, maximum_of, rows_of, columns_of, cell_values, picture_cells, cells_refusal, picture_refusal, read_refusal, viewed, read_by, read_of, ReadPictureIs}
use Rattle.cells.proofs.Words.{product_same}
use Rattle.cells.proofs.Grid.{size_limits}
use Rattle.writing.specs.Put.{Put}
use Rattle.writing.proofs.Putting.{put_over}
use Rattle.heads.specs.declared.Head.{Head}
use Rattle.heads.specs.Headed.{Passed}
use Rattle.heads.proofs.Heads.{head_chain}
use Rattle.cells.proofs.Refused.{never_0}
use Rattle.viewing.proofs.Cells.{values_length}

module _ (s room : List ℕ) where
  pub read_refused : (e : Refusal) → refusal_number e ≡ read_refusal s room → ReadPictureIs s room (record { number = refusal_number e; rows = 0; columns = 0 }) room
  unfolding read_of read_by
  read_refused e f = simp (ne_eqb (read_refusal s room) 0 (λ z. never_0 e (f ∙ z))) (ap (λ (k : ℕ). viewed k 0 0 room) f)

  pub read_accepted : read_refusal s room ≡ 0 → read_of s room ≡ viewed 0 (rows_of s) (columns_of s) (over (picture_cells s) room)
  unfolding read_of read_by
  read_accepted e = simp (eq-eqb (read_refusal s room) 0 e)

  pub read_unfit : (length room ≡ 2048 → ⊥) → 21 ≡ read_refusal s room
  unfolding read_refusal
  read_unfit h = simp (ne_eqb (length room) 2048 h)

  module _ (long : length room ≡ 2048) where
    pub read_fits : read_refusal s room ≡ picture_refusal s
    unfolding read_refusal
    read_fits = ap (λ (b : Bool). unless 21 b (picture_refusal s)) (eq-eqb (length room) 2048 long)

    pub read_no_head : {e : ℕ} → ((rest : ℕ) → head_chain s rest ≡ e) → e ≡ read_refusal s room
    unfolding picture_refusal
    read_no_head f = sym (read_fits ∙ f (cells_refusal (rows_of s * columns_of s) (rest_of (maximum_of s))))

    module _ {z : Head} (p : Passed s (head_chain s) (rest_of (maximum_of s)) z) {n : ℕ} (k : n ≡ z.rows * z.columns) where
      cells_count : n ≡ rows_of s * columns_of s
      cells_count = k ∙ product_same p.rows p.columns

      refusal_as : cells_refusal n (drop z.at s) ≡ read_refusal s room
      unfolding picture_refusal
      refusal_as =
          ap (λ (m : ℕ). cells_refusal m (drop z.at s)) cells_count ∙ ap (cells_refusal (rows_of s * columns_of s)) p.rest
          ∙ sym (read_fits ∙ p.refusal (cells_refusal (rows_of s * columns_of s) (rest_of (maximum_of s))))

      values_as : cell_values n (drop z.at s) ≡ picture_cells s
      values_as = ap (λ (m : ℕ). cell_values m (drop z.at s)) cells_count ∙ ap (cell_values (rows_of s * columns_of s)) p.rest

      pub read_judged : {fault : ℕ} → fault ≡ cells_refusal n (drop z.at s) → fault ≡ read_refusal s room
      read_judged f = f ∙ refusal_as

      module _ (f : 0 ≡ cells_refusal n (drop z.at s)) where
        pub read_may_take : (cells_refusal n (drop z.at s) ≡ 0) × (n ≤ length room)
        read_may_take =
            let m = (size_limits (rows_of s) (columns_of s) p.size).cells in
            let c = cells_count in
            (sym f, omega arith)

        pub read_taken : {room' : List ℕ} {q : ℕ} → Put (cell_values n (drop z.at s)) 0 room room' q
            → ReadPictureIs s room (record { number = 0; rows = z.rows; columns = z.columns }) room'
        read_taken {room'} t =
            let l = values_length n (drop z.at s) in
            let m = read_may_take.1 in
            ap (λ (x : ℕ). viewed 0 x z.columns room') p.rows ∙ ap (λ (x : ℕ). viewed 0 (rows_of s) x room') p.columns
            ∙ ap (λ (c : List ℕ). viewed 0 (rows_of s) (columns_of s) c) (put_over (omega arith) t ∙ ap (λ (c : List ℕ). over c room) values_as)
            ∙ sym (read_accepted (sym (read_judged f)))
