-- The four edits of a record's T-state list, on all six places, of which the first m are filled. Definitions only.
-- An edit that is done leaves what the original leaves, also where something stands behind the filled places of a record made by hand; one that is refused leaves the record as it came.
use Rattle.std.specs.Prelude.{ℕ, ◌+◌, ◌-◌, ◌≤◌, ◌≡◌, Bool, cond, ◌&&◌, Result, Ok, Err, List, [], ◌∷◌, ◌++◌, ltb, leb, length, take, drop}
use Rattle.opcode.specs.Record.{unfilled, six}
use Rattle.opcode.specs.declared.counts.TStates.{TStates}
use Rattle.opcode.specs.declared.record.OpCode.{OpCode}
use Rattle.opcode.specs.declared.timing.Timing.{Timing}

-- the filled places of a record, and of what is put in
abbrev pub filled : OpCode → List TStates
filled r = take r.mcycles.0 r.tstates

abbrev pub listed : Timing → List TStates
listed x = take x.mcycles.0 x.tstates

-- a record as decoding makes it: at most six filled places, and zeros behind them
abbrev pub Formed : OpCode → Type 0
Formed r = (r.mcycles.0 ≤ 6) × (r.tstates ≡ six (filled r))

-- l with s over its places from pos on
unfoldable pub written : List TStates → ℕ → List TStates → List TStates
written l pos s = take pos l ++ (s ++ drop (pos + length s) l)

-- l with s put in before place pos: what stands there moves back
unfoldable pub inserted : List TStates → ℕ → List TStates → List TStates
inserted l pos s = take pos l ++ (s ++ drop pos l)

-- l without place pos: what stands behind it moves up, and the last place stays as it is
unfoldable pub removed : List TStates → ℕ → List TStates
removed l pos = written l pos (drop (pos + 1) l)

-- no: the record as it came
abbrev pub no : OpCode → Result OpCode OpCode
no r = Err r

-- the record of an edit's answer, whatever it is
abbrev pub rec_of : Result OpCode OpCode → OpCode
rec_of (Ok r) = r
rec_of (Err r) = r

-- the record with the first six of l, n of them filled; its row times are figures of the row, not of the list, and stay
abbrev pub timed : OpCode → List TStates → ℕ → OpCode
timed r l n =
    record {
      length = r.length;
      ins = r.ins;
      op1 = r.op1;
      op2 = r.op2;
      op3 = r.op3;
      «data» = r.«data»;
      tstates = six l;
      mcycles = record { 0 = n };
      least = r.least;
      most = r.most;
    }

-- yes: the record with these places
abbrev pub yes : OpCode → List TStates → ℕ → Result OpCode OpCode
yes r l n = Ok (timed r l n)

-- at most six places are filled, pos is at most their count m, and there is room for n more
unfoldable pub may_insert : ℕ → ℕ → ℕ → Bool
may_insert m pos n = leb m 6 && (leb pos m && leb n (6 - m))

-- what passes the sixth place is lost
unfoldable pub insert_of : OpCode → ℕ → Timing → Result OpCode OpCode
insert_of r pos x =
    cond (may_insert r.mcycles.0 pos x.mcycles.0)
    (yes r (inserted r.tstates pos (listed x)) (r.mcycles.0 + x.mcycles.0))
    (no r)

-- at most six places are filled, and there is room for n more
unfoldable pub may_extend : ℕ → ℕ → Bool
may_extend m n = leb m 6 && leb n (6 - m)

-- behind the filled places, over what stands there; no other place alters
unfoldable pub extend_of : OpCode → Timing → Result OpCode OpCode
extend_of r x =
    cond (may_extend r.mcycles.0 x.mcycles.0)
    (yes r (written r.tstates r.mcycles.0 (listed x)) (r.mcycles.0 + x.mcycles.0))
    (no r)

unfoldable pub push_of : OpCode → TStates → Result OpCode OpCode
push_of r t = cond (may_extend r.mcycles.0 1) (yes r (written r.tstates r.mcycles.0 (t ∷ [])) (r.mcycles.0 + 1)) (no r)

-- at most six places are filled, and pos is one of them
unfoldable pub may_remove : ℕ → ℕ → Bool
may_remove m pos = leb m 6 && ltb pos m

-- the place that is filled no more is zero
unfoldable pub remove_of : OpCode → ℕ → Result OpCode OpCode
remove_of r pos =
    cond (may_remove r.mcycles.0 pos)
    (yes r (written (removed r.tstates pos) (r.mcycles.0 - 1) (unfilled ∷ [])) (r.mcycles.0 - 1))
    (no r)
