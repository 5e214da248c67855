-- What an edit of a lent record does, said by the same edit by value. Definitions only.
use Rattle.std.specs.Prelude.{◌≡◌, Bool, true, false, Result, Ok, Err, is_ok}
use Rattle.opcode.specs.declared.record.OpCode.{OpCode}
use Rattle.opcode.specs.Timing.{rec_of}

-- an edit's answer, by whether it is done and the record that it leaves
abbrev pub answered : Bool → OpCode → Result OpCode OpCode
answered true r = Ok r
answered false r = Err r

-- it says whether the edit is done, leaves the edit's record, and where it says no, the record as it was
abbrev pub Leaves : (OpCode → Result OpCode OpCode) → OpCode → Bool → OpCode → Type 0
Leaves edit was ok rec = (ok ≡ is_ok (edit was)) × (rec ≡ rec_of (edit was)) × (ok ≡ false → rec ≡ was)
