-- Only for internal functions.
use Rattle.std.specs.Prelude.{List, [], ◌∷◌, ℕ, suc, ◌+◌, eqb, ltb, set}
use Rattle.std.specs.Prelude.{Some, is_some}
use Rattle.std.specs.Option.{option_or}
use Rattle.sums.specs.Choice.{pick}
use Rattle.currency.specs.declared.Position.{Position}
use Rattle.margins.specs.declared.figures.Figures.{Figures}
use Rattle.margins.specs.declared.lines.Line.{Line}
use Rattle.margins.specs.declared.lines.Line.TheVariants.{Nothing, Holds, Told, Bad}
use Rattle.margins.specs.declared.positions.Held.{Held}

-- how many bytes stand in front of the first mark; all where there is none
unfoldable pub in_front : ℕ → List ℕ → ℕ
in_front mark [] = 0
in_front mark (b ∷ rest) = pick (eqb b mark) 0 (suc (in_front mark rest))

-- one position more; past the last place it is only counted
abbrev pub with_position : Held → Position → Held
with_position h p = record {
  positions = pick (ltb h.number 64) (set h.positions h.number p) h.positions;
  number = h.number + 1;
  figures = h.figures;
  bad = h.bad;
}

-- the first line that is none counts
abbrev pub with_bad : Held → ℕ → Held
with_bad h n = record { positions = h.positions; number = h.number; figures = h.figures; bad = option_or h.bad (Some n) }

abbrev pub with_figures : Held → Figures → ℕ → Held
with_figures h f n =
    pick (is_some h.figures) (with_bad h n)
    (record { positions = h.positions; number = h.number; figures = Some f; bad = h.bad })

-- what is held after line n, which says this
abbrev pub with_line : Held → Line → ℕ → Held
with_line h Nothing n = h
with_line h (Holds p) n = with_position h p
with_line h (Told f) n = with_figures h f n
with_line h Bad n = with_bad h n
