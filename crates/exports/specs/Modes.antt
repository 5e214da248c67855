-- The mode as a number, as table/specs/Mode.antt defines it: 35, before all others, a mode other than 0 or 1.
pub use Rattle.table.specs.Mode.{mode_of, bad_mode}
