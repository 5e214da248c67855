-- No line of an image's rows is longer than 58 bytes. Assumes nothing.
use Rattle.std.proofs.Common.{ℕ, ◌+◌, ◌≤◌, drop, length}
use Rattle.table.specs.declared.Mode.{Mode}
use Rattle.image.specs.declared.Image.{Image}
use Rattle.image.specs.Places.{window}
use Rattle.listing.specs.Rows.{line_of}
use Rattle.listing.proofs.Longest.{line_most, window_bytes}

pub fits : (mode : Mode) (i : Image) (place : ℕ) → length (line_of mode (i.origin + place) (window (drop place i.bytes.now))) ≤ 58
fits mode i place = line_most mode (i.origin + place) (window (drop place i.bytes.now)) (window_bytes mode place i.bytes.now i.bytes_fit)
