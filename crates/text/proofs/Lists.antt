-- Lists of numbers put into a room, one number after the other.
use mathlib.Core.List.{List, [], ◌∷◌, ◌++◌, append_assoc, append-nil}
use mathlib.Core.Path.{◌≡◌, refl, ap, sym, ◌∙◌}
use Prim.Native.Nat.{ℕ, zero, suc, ◌+◌, ◌<◌}
use native.Mathlib.Numerals.{add-one}
use native.Mathlib.Omega.{arith}
use lib.ListN.{length, take, get_or}
use lib.Seq.{take-suc}
use Rattle.text.specs.Numbers.{space, newline, followed, spaced, and_spaces}
use Rattle.text.specs.Inner.{Puts}
use Rattle.text.proofs.Puts.{and_then}

-- one number more, a space after it
spaces-more : (list : List ℕ) (n : ℕ) → and_spaces (list ++ (n ∷ [])) ≡ and_spaces list ++ followed n space
unfolding and_spaces
spaces-more [] n = append-nil (followed n space)
spaces-more (m ∷ list) n =
    ap (λ (t : List ℕ). followed m space ++ t) (spaces-more list n) ∙ sym (append_assoc (followed m space) (and_spaces list) (followed n space))

-- the last number, the line's end after it
spaced-last : (list : List ℕ) (i : ℕ) → length list ≡ suc i → and_spaces (take i list) ++ followed (get_or list i 0) newline ≡ spaced list
unfolding and_spaces spaced
spaced-last [] i h = absurd (omega arith)
spaced-last (n ∷ []) zero h = refl
spaced-last (n ∷ []) (suc i) h = absurd (omega arith)
spaced-last (n ∷ m ∷ list) zero h = absurd (omega arith)
spaced-last (n ∷ m ∷ list) (suc i) h =
    append_assoc (followed n space) (and_spaces (take i (m ∷ list))) (followed (get_or (m ∷ list) i 0) newline)
    ∙ ap (λ (t : List ℕ). followed n space ++ t) (spaced-last (m ∷ list) i (omega arith))

pub number_more : {room₀ room room' : List ℕ} {at p q : ℕ} (list : List ℕ) (i : ℕ) → i < length list → Puts room₀ at (and_spaces (take i list)) room p
    → Puts room p (followed (get_or list i 0) space) room' q → Puts room₀ at (and_spaces (take (i + 1) list)) room' q
number_more list i h f g =
    let e : take (i + 1) list ≡ take i list ++ (get_or list i 0 ∷ []) = ap (λ (j : ℕ). take j list) (add-one i) ∙ take-suc list i 0 h in
    rw (ap and_spaces e ∙ spaces-more (take i list) (get_or list i 0)) (and_then (and_spaces (take i list)) (followed (get_or list i 0) space) f g)

pub number-last : {room₀ room room' : List ℕ} {at p q : ℕ} (list : List ℕ) (i : ℕ) → length list ≡ i + 1 → Puts room₀ at (and_spaces (take i list)) room p
    → Puts room p (followed (get_or list i 0) newline) room' q → Puts room₀ at (spaced list) room' q
number-last list i h f g =
    rw (sym (spaced-last list i (h ∙ add-one i))) (and_then (and_spaces (take i list)) (followed (get_or list i 0) newline) f g)
