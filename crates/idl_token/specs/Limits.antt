-- Limits of a text.
pub use Rattle.limits.specs.Limits.{longest_idl_text}
