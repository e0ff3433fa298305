-- What lines hold, line by line.
use mathlib.Core.Bool.{Bool, true, false}
use mathlib.Core.List.{List, [], ◌∷◌, ◌++◌, map, append_assoc, append-nil}
use mathlib.Core.Logic.{⊎_elim}
use mathlib.Core.Path.{◌≡◌, refl, sym, ap, ◌∙◌}
use Rattle.std.specs.Prelude.{Option, None, Some, is_some}
use Rattle.std.specs.Option.{option_or}
use Prim.Native.Nat.{ℕ, zero, suc, ◌+◌, ◌-◌, ◌≤◌, ◌<◌}
use native.Mathlib.Nat.{eq-or-lt_of_le}
use native.Mathlib.Numerals.{add-one}
use native.Mathlib.Omega.{arith}
use borrow.Author.Tests.{ltb-false}
use lib.Dec.{ltb}
use lib.ListN.{length, take, drop, set, length-append, length-drop, drop_of_length-le}
use lib.Seq.{take_all, drop-drop, set_out}
use Rattle.sums.specs.Choice.{pick}
use Rattle.text.specs.Numbers.{newline}
use Rattle.currency.specs.declared.Position.{Position}
use Rattle.margins.specs.declared.figures.Figures.{Figures}
use Rattle.margins.specs.declared.lines.Line.{Line}
use Rattle.margins.specs.declared.lines.Line.TheVariants.{Nothing, Holds, Told, Bad}
use Rattle.margins.specs.declared.positions.Held.{Held}
use Rattle.margins.specs.Words.{parted_by}
use Rattle.margins.specs.Lines.{line_says}
use Rattle.margins.specs.Positions.{positions_in, first_of, figures_in, first_bad, held_by, said_in, held_in}
use Rattle.margins.specs.Inner.{in_front, with_position, with_line}
use Rattle.margins.proofs.Parting.{in-front-most, parted-whole, parted-first}

-- what is held after more lines, the first of them being line n
unfoldable pub held_on : Held → ℕ → List Line → Held
held_on h n [] = h
held_on h n (l ∷ rest) = held_on (with_line h l n) (suc n) rest

abbrev held_with : List Position → Option Figures → Option ℕ → Held
held_with ps f b = record { positions = first_of 64 ps; number = length ps; figures = f; bad = b }

one_more : (k : ℕ) (ps : List Position) (p : Position) → set (first_of k ps) (length ps) p ≡ first_of k (ps ++ (p ∷ []))
unfolding first_of
one_more zero ps p = refl
one_more (suc k) [] p = refl
one_more (suc k) (q ∷ ps) p = ap (λ (rest : List Position). q ∷ rest) (one_more k ps p)

length-first : (k : ℕ) (ps : List Position) → length (first_of k ps) ≡ k
unfolding first_of
length-first zero ps = refl
length-first (suc k) [] = ap suc (length-first k [])
length-first (suc k) (p ∷ ps) = ap suc (length-first k ps)

put-more : (ps : List Position) (p : Position) (t : Bool) → ltb (length ps) 64 ≡ t → pick t (set (first_of 64 ps) (length ps) p) (first_of 64 ps) ≡ first_of 64 (ps ++ (p ∷ []))
unfolding pick
put-more ps p true e = one_more 64 ps p
put-more ps p false e = sym (set_out (first_of 64 ps) (length ps) p (omega (arith, length-first 64 ps, ltb-false (length ps) 64 e))) ∙ one_more 64 ps p

position-more : (ps : List Position) (f : Option Figures) (b : Option ℕ) (p : Position) → with_position (held_with ps f b) p ≡ held_with (ps ++ (p ∷ [])) f b
position-more ps f b p =
    let n : length ps + 1 ≡ length (ps ++ (p ∷ [])) = sym (length-append ps (p ∷ [])) in
    cc (put-more ps p (ltb (length ps) 64) refl, n)

-- the first bad line stays
stays : (b : Option ℕ) (n : ℕ) (x : Option ℕ) → option_or (option_or b (Some n)) x ≡ option_or b (Some n)
stays None n x = refl
stays (Some k) n x = refl

no_more : (b : Option ℕ) → option_or b None ≡ b
no_more None = refl
no_more (Some k) = refl

-- figures were told before
on-told : (lines : List Line) (ps : List Position) (f : Figures) (b : Option ℕ) (n : ℕ)
    → held_on (held_with ps (Some f) b) n lines ≡ held_with (ps ++ positions_in lines) (Some f) (option_or b (first_bad true n lines))
unfolding held_on positions_in first_bad pick
on-told [] ps f b n = cc (append-nil ps, no_more b)
on-told (Nothing ∷ rest) ps f b n = on-told rest ps f b (suc n)
on-told (Holds p ∷ rest) ps f b n =
    ap (λ h. held_on h (suc n) rest) (position-more ps (Some f) b p)
    ∙ on-told rest (ps ++ (p ∷ [])) f b (suc n)
    ∙ ap (λ qs. held_with qs (Some f) (option_or b (first_bad true (suc n) rest))) (append_assoc ps (p ∷ []) (positions_in rest))
on-told (Told g ∷ rest) ps f b n =
    on-told rest ps f (option_or b (Some n)) (suc n) ∙ ap (held_with (ps ++ positions_in rest) (Some f)) (stays b n (first_bad true (suc n) rest))
on-told (Bad ∷ rest) ps f b n =
    on-told rest ps f (option_or b (Some n)) (suc n) ∙ ap (held_with (ps ++ positions_in rest) (Some f)) (stays b n (first_bad true (suc n) rest))

on : (lines : List Line) (ps : List Position) (b : Option ℕ) (n : ℕ)
    → held_on (held_with ps None b) n lines ≡ held_with (ps ++ positions_in lines) (figures_in lines) (option_or b (first_bad false n lines))
unfolding held_on positions_in figures_in first_bad pick
on [] ps b n = cc (append-nil ps, no_more b)
on (Nothing ∷ rest) ps b n = on rest ps b (suc n)
on (Holds p ∷ rest) ps b n =
    ap (λ h. held_on h (suc n) rest) (position-more ps None b p)
    ∙ on rest (ps ++ (p ∷ [])) b (suc n)
    ∙ ap (λ qs. held_with qs (figures_in rest) (option_or b (first_bad false (suc n) rest))) (append_assoc ps (p ∷ []) (positions_in rest))
on (Told g ∷ rest) ps b n = on-told rest ps g b (suc n)
on (Bad ∷ rest) ps b n =
    on rest ps (option_or b (Some n)) (suc n)
    ∙ ap (held_with (ps ++ positions_in rest) (figures_in rest)) (stays b n (first_bad false (suc n) rest))

pub from-none : (text : List ℕ) → held_on (held_by []) 1 (said_in text) ≡ held_in text
unfolding held_by held_in positions_in figures_in first_bad
from-none text = on (said_in text) [] None 1

-- an empty line behind the end says nothing
pub at-end : (h : Held) (n : ℕ) (text : List ℕ) (at : ℕ) → length text ≤ at → held_on h n (said_in (drop at text)) ≡ h
unfolding held_on parted_by line_says
at-end h n text at e = ap (λ rest. held_on h n (said_in rest)) (drop_of_length-le text {i = at} e)

line_on : (h : Held) (k : ℕ) (rest : List ℕ) → held_on h k (said_in rest) ≡ held_on (with_line h (line_says (take (in_front newline rest) rest)) k) (suc k) (said_in (drop (suc (in_front newline rest)) rest))
unfolding held_on
line_on h k rest =
    ⊎_elim
    (λ (e : in_front newline rest ≡ length rest).
    ap (λ lines. held_on h k (map line_says lines)) (parted-whole newline rest e)
    ∙ ap (λ l. with_line h (line_says l) k) (sym (take_all (in_front newline rest) rest (omega arith)))
    ∙ sym (at-end _ (suc k) rest (suc (in_front newline rest)) (omega arith)))
    (λ (e : in_front newline rest < length rest). ap (λ lines. held_on h k (map line_says lines)) (parted-first newline rest e))
    (eq-or-lt_of_le (in-front-most newline rest))

-- a turn of the loop: n bytes from the place at are line k + 1
pub a_turn : (text : List ℕ) (at n k : ℕ) (h h' : Held) → n ≡ in_front newline (take (length text - at) (drop at text))
    → h' ≡ with_line h (line_says (take n (take (length text - at) (drop at text)))) (k + 1)
    → held_on h (suc k) (said_in (drop at text)) ≡ held_on h' (suc (k + 1)) (said_in (drop (at + n + 1) text))
a_turn text at n k h h' en eh =
    let whole : take (length text - at) (drop at text) ≡ drop at text = take_all (length text - at) (drop at text) (simp length-drop (omega arith)) in
    let front : n ≡ in_front newline (drop at text) = en ∙ ap (in_front newline) whole in
    let here : h' ≡ with_line h (line_says (take n (drop at text))) (suc k) = eh ∙ ap (λ r. with_line h (line_says (take n r)) (k + 1)) whole ∙ ap (with_line h (line_says (take n (drop at text)))) (add-one k) in
    let sum : at + suc n ≡ at + n + 1 = omega arith in
    let place : drop (suc n) (drop at text) ≡ drop (at + n + 1) text = drop-drop (suc n) at text ∙ ap (λ i. drop i text) sum in
    line_on h (suc k) (drop at text)
    ∙ ap (λ i. held_on (with_line h (line_says (take i (drop at text))) (suc k)) (suc (suc k)) (said_in (drop (suc i) (drop at text)))) (sym front)
    ∙ ap (λ g. held_on g (suc (suc k)) (said_in (drop (suc n) (drop at text)))) (sym here)
    ∙ ap (λ r. held_on h' (suc (suc k)) (said_in r)) place
    ∙ ap (λ i. held_on h' (suc i) (said_in (drop (at + n + 1) text))) (sym (add-one k))

told-most : (t : Bool) (h g : Held) {n : ℕ} → h.number ≤ n → g.number ≤ n → (pick t h g).number ≤ n
unfolding pick
told-most true h g a b = a
told-most false h g a b = b

most-by : (h : Held) (l : Line) (n : ℕ) → (with_line h l n).number ≤ h.number + 1
most-by h Nothing n = omega arith
most-by h (Holds p) n = omega arith
most-by h (Told f) n = told-most (is_some h.figures) _ _ (omega arith) (omega arith)
most-by h Bad n = omega arith

-- a line holds one position at most
pub one_at_most : (text : List ℕ) (at n k : ℕ) (h h' : Held) → h' ≡ with_line h (line_says (take n (take (length text - at) (drop at text)))) (k + 1) → h'.number ≤ h.number + 1
one_at_most text at n k h h' e = omega (arith, ap (λ g. g.number) e, most-by h (line_says (take n (take (length text - at) (drop at text)))) (k + 1))

pub none_yet : (h : Held) → h ≡ held_by [] → h.number ≤ 0
unfolding held_by positions_in
none_yet h e = omega (arith, ap (λ g. g.number) e)
