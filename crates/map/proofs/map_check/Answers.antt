-- The answer, which the check finds, is the one that the marking rules name.
use Rattle.std.proofs.Common.{◌≡◌, ℕ, List, rules}
use Rattle.std.specs.Prelude.{Err}
use Rattle.table.specs.declared.Mode.{Mode}
use Rattle.marking.specs.declared.MapRefusal.{MapRefusal}
use Rattle.marking.specs.Rules.{Chart}
use Rattle.marking.specs.Verdict.{Checked, number_of, address_of, Verdict}
use Rattle.marking.specs.Check.{check_of}
use Rattle.flow.specs.Flow.{look_of}
use Rattle.flow.proofs.Demand.{map_named}
use Rattle.map.proofs.map_check.Goals as goal

named : (mode : Mode) (m : Chart) (es : List ℕ) (x : Checked) → x ≡ check_of (look_of mode) m es → Verdict (look_of mode) m es (number_of x) (address_of x)
named mode m es x e = rw e (map_named mode m es)

pub returns-then-is_wrong_count-clause-rules : goal.returns-then-is_wrong_count-clause-rules
unfolding check_of
returns-then-is_wrong_count-clause-rules c = named c.args.mode _ _ (Err MapRefusal.EntryCount) (search rules)

pub returns-in-Some-clause-rules : goal.returns-in-Some-clause-rules
unfolding check_of
returns-in-Some-clause-rules c = named c.args.mode _ _ (Err (MapRefusal.MarkValue c.address_of.result)) (search rules)

pub returns-in-Some-first_entry-clause-rules : goal.returns-in-Some-first_entry-clause-rules
unfolding check_of
returns-in-Some-first_entry-clause-rules c = named c.args.mode _ _ (Err (MapRefusal.EntryNotStart c.in-Some-first_entry.address)) (search rules)

pub returns-clause-rules : goal.returns-clause-rules
unfolding check_of
returns-clause-rules c = named c.args.mode _ _ c.first_broken.result (search rules)
