-- Several rows to lent bytes. Definitions only.
use Rattle.std.specs.Prelude.{ℕ, ◌-◌, cond, List, [], ◌∷◌, ◌++◌, leb, length, drop}
use Rattle.table.specs.declared.Mode.{Mode}
use Rattle.listing.specs.Rows.{line_of, Row, listing, printed, joined}
use Rattle.listing.specs.Answers.{Outcome, outcome}
use Rattle.image.specs.Places.{wrong_size, outside, window_at}

-- of some rows those that are written to so much room: from the first on, as many whole lines as fit
abbrev pub page : ℕ → List Row → List Row
page room [] = []
page room (r ∷ rs) = cond (leb (length r.line) room) (r ∷ page (room - length r.line) rs) []

-- of the rows of s, whose first byte stands at address a, to lent bytes
abbrev pub page_of : Mode → ℕ → List ℕ → List ℕ → List Row
page_of mode a s out = page (length out) (listing mode a s)

-- of the rows from an address on
abbrev pub page_at : Mode → List ℕ → ℕ → ℕ → List ℕ → List Row
page_at mode image origin address out = page_of mode address (drop (address - origin) image) out

-- some rows, written to lent bytes that have room for them
abbrev pub written : List Row → List ℕ → Outcome
written rows out = outcome 0 (length (printed rows)) (length (joined rows)) (printed rows ++ drop (length (printed rows)) out)

-- 5 and 1 first, then 4 exactly where the first line does not fit; else the lines at the front of the lent bytes, those behind them as they were
abbrev pub rows_outcome : Mode → List ℕ → ℕ → ℕ → List ℕ → Outcome
rows_outcome mode image origin address out =
    cond (wrong_size image origin) (outcome 5 0 0 out)
    (cond (outside image origin address) (outcome 1 0 0 out)
    (cond (leb (length (line_of mode address (window_at image origin address))) (length out)) (written (page_at mode image origin address out) out)
    (outcome 4 0 0 out)))
