pub mod Secret
pub mod Before
pub mod Rules
