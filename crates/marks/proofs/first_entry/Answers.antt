-- The entries come two bytes at a time.
use Rattle.std.proofs.Common.{ℕ, not, rules, tests, sym, ap, ◌∙◌, map}
use Rattle.std.specs.Prelude.{find}
use Rattle.std.proofs.lemmas.Iterator.{YieldsList-from_map}
use Rattle.std.proofs.lemmas.Iterator.Adapters.{option_map_id}
use Rattle.std.proofs.lemmas.Iterator.Consumers.{YieldsList-at}
use Rattle.std.proofs.lemmas.Iterator.Search.{find_from_yields_List}
use Rattle.marking.specs.Check.{is_start}
use Rattle.marks.proofs.Pairs.{address, pairs, map-pairs, YieldsList-from_pairs}
use Rattle.marks.proofs.first_entry.Goals as goal

pub returns : goal.returns
returns c =
    let s = c.args in
    let test = λ (a : ℕ). not (is_start s.marks.now s.origin a) in
    let found =
    find_from_yields_List test _ _ c.find.result c.find.ensures.ran
    (YieldsList-from_map _ address (YieldsList-at c.map.ensures.source (YieldsList-from_pairs c.chunks_exact.result c.chunks_exact.ensures.size)) c.map.ensures.closure (λ x r q k. search (rules, tests)))
    (λ x b q k. search (rules, tests)) in
    sym (option_map_id c.find.result) ∙ found ∙ ap (find test) (ap (map address) (ap pairs c.chunks_exact.ensures.rest) ∙ map-pairs s.entries.now)
