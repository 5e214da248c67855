-- The line at the code's high digit, and in it the number at the low one.
use Rattle.std.proofs.Common.{List, ℕ, [], ◌/◌, ◌%◌, get_or, refl, ap, arith}
use mathlib.Core.Path.{◌∙◌}
use Rattle.table.proofs.Upto.{agree}
use Rattle.pages.specs.Chart.{sixteen, chart}
use Rattle.pages.proofs.Chart.{at_code}
use Rattle.pages.proofs.page.row.Goals as goal

pub returns : goal.returns
returns g c =
    let page = g.P.Page.lines in
    let line = agree (λ (k : ℕ). get_or (chart page) k []) (sixteen page) [] 16 refl (c.args.code / 16) (omega arith) in
    c.nth-2.ensures 0 ∙ ap (λ (l : List ℕ). get_or l (c.args.code % 16) 0) (c.nth.ensures []) ∙ at_code page _ (c.args.code / 16) c.args.code (c.ROWS.ensures ∙ g.P.Page.charted) line refl
