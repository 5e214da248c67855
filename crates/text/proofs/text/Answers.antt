-- A decoded record's text has room in the line, and the part of the line that is given is the text itself.
use Rattle.std.proofs.Common.{arith, ◌≡◌, ℕ, ◌≤◌, List, length, refl}
use borrow.Author.Tests.{le-ltb}
use Rattle.table.specs.declared.Answer.{Answer}
use Rattle.table.specs.declared.Decoded.{Decoded}
use Rattle.table.specs.declared.Mode.{Mode}
use Rattle.table.specs.Chip.{decode_in}
use Rattle.table.specs.Consequences.{AllBytes}
use Rattle.wording.specs.Text.{text_of}
use Rattle.wording.proofs.Longest.{any_most}
use Rattle.writer.proofs.Laws.{filled, counted, size}
use Rattle.wording.specs.Answers.{outcome, told_by, given}
use Rattle.wording.specs.declared.TextRefusal.{TextRefusal}
use Rattle.std.specs.Option.{ok_or}
use Rattle.std.specs.Prelude.{Option, Some, None, Bool, true, false, cond, leb}
use Rattle.writer.proofs.Given.{count, left, whether, becomes}
use Rattle.text.proofs.text.Goals as goal

fits : (mode : Mode) (choice : ℕ) (ins : List ℕ) (d : Decoded) → AllBytes ins → d ≡ decode_in mode ins → d.answer ≡ Answer.Done → length (text_of choice d.rec) ≤ 52
fits mode choice ins d bytes e done = rw e (any_most choice mode ins bytes (rw e at done))

by : (fits : Bool) (n : ℕ) (new out : List ℕ) → told_by (ok_or (cond fits (Some n) None) TextRefusal.NoRoom) (cond fits new out) ≡ cond fits (outcome 0 n 0 new) (outcome 4 0 0 out)
by true n new out = refl
by false n new out = refl

-- what is answered, and left, of a text that was given
told : {answer : Option ℕ} {new : List ℕ} (t out : List ℕ) → answer ≡ count out t → new ≡ left out t → told_by (ok_or answer TextRefusal.NoRoom) new ≡ given t out
told t out e f = rw (e, f) (by (leb (length t) (length out)) (length t) _ out)

pub slice_bounds-line-end : goal.slice_bounds-line-end
slice_bounds-line-end c =
    let room = fits c.args.mode c.args.choice c.args.ins.now c.disas-answer.result (λ j. (c.type_inv.ins j).fits) c.disas-answer.ensures.answer c.in-Done.is in
    let w = c.text_in-count.ensures in
    omega (arith, counted w room, room, size w)

pub slice_bounds-give-end : goal.slice_bounds-give-end
slice_bounds-give-end c =
    filled c.text_in-count.ensures (fits c.args.mode c.args.choice c.args.ins.now c.disas-answer.result (λ j. (c.type_inv.ins j).fits) c.disas-answer.ensures.answer c.in-Done.is)

pub returns : goal.returns
returns c =
    let room = fits c.args.mode c.args.choice c.args.ins.now c.disas-answer.result (λ j. (c.type_inv.ins j).fits) c.disas-answer.ensures.answer c.in-Done.is in
    let w = c.text_in-count.ensures in
    rw (le-ltb 7 c.args.choice (omega arith), ← c.disas-answer.ensures.answer, c.in-Done.is, c.ok_or.ensures.value)
    (told _ _ (whether w room _ c.give.ensures.answer) (becomes w room _ c.give.ensures.bytes))
