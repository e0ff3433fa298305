-- The accounts that a text names, at the front of two arrays.
use mathlib.Core.Bool.{Bool, true, false, ◌&&◌}
use mathlib.Core.List.{List, [], ◌∷◌, ◌++◌}
use mathlib.Core.Path.{◌≡◌, refl, sym, ap, ◌∙◌}
use Prim.Native.Nat.{ℕ, zero, suc, ◌+◌, ◌-◌, ◌≤◌, ◌<◌}
use native.Mathlib.Omega.{arith}
use native.Mathlib.Decide.{ℕ_discrete}
use native.Mathlib.Numerals.{add-one}
use borrow.Author.Tests.{eq-eqb, ne_eqb, lt-ltb, le-ltb, le-leb, lt-leb}
use lib.Dec.{eqb, ltb}
use lib.ListN.{length, take, drop, get_or, set, get_or-eq_default}
use lib.Seq.{length-take-le, get_or-take, take-suc-set}
use Rattle.sums.specs.Sum.{any, all, least}
use Rattle.sums.proofs.Choices.{pick_yes, pick_no, pick_first, pick_second}
use Rattle.sums.proofs.Least.{least-is}
use Rattle.sums.proofs.Sums.{all-step}
use Rattle.rows.specs.Rows.{place_among}
use Rattle.words.specs.declared.Got.{Got}
use Rattle.words.specs.Tokens.{number_at, ends_at}
use Rattle.words.specs.Texts.{lines_of, line_length}
use Rattle.words.proofs.LinesAt.{line-here, no_line}
use Rattle.closeouts.specs.declared.loss_lines.Loss.{Loss}
use Rattle.closeouts.specs.declared.loss_lines.Loss.TheVariants.{Nothing, Of, Bad}
use Rattle.std.specs.Prelude.{Option, None, Some, is_some, Result, Ok, Err, ⊤}
use Rattle.closeouts.specs.declared.losses.Losses.{Losses}
use Rattle.closeouts.specs.Inner.{PlaceAmong, named_then, Puts}
use Rattle.closeouts.specs.LossLines.{names, fails, loss_said, account_said, amount_said, named_by, losses, wrong, told_by, told_from, told_of, loss_for}

-- ---- the place of a number

module _ (numbers : List ℕ) (count n i : ℕ) where
  pub place-first : i < count → get_or numbers i 0 ≡ n → ((j : ℕ) → j < i → get_or numbers j 0 ≡ n → ⊥) → place_among numbers count n ≡ i
  unfolding place_among
  place-first l e h = least-is count (λ j. eqb (get_or numbers j 0) n) i l (eq-eqb _ n e) (λ j m. ne_eqb _ n (h j m))

pub none_yet : (numbers : List ℕ) (n i : ℕ) → (get_or numbers i 0 ≡ n → ⊥) → ((j : ℕ) → j < i → get_or numbers j 0 ≡ n → ⊥)
    → (j : ℕ) → j < i + 1 → get_or numbers j 0 ≡ n → ⊥
none_yet numbers n i other before j l e = by (ℕ_discrete j i)
  where
    by : Dec (j ≡ i) → ⊥
    by (yes q) = other (rw q at e)
    by (no q) = before j (omega arith) e

any-eq : (n : ℕ) (p q : ℕ → Bool) → ((i : ℕ) → i < n → p i ≡ q i) → any n p ≡ any n q
unfolding any
any-eq zero p q h = refl
any-eq (suc n) p q h = let e = any-eq n p q (λ i l. h i (omega arith)) in let f = h n (omega arith) in rw (e, f)

least-eq : (n : ℕ) (p q : ℕ → Bool) → ((i : ℕ) → i < n → p i ≡ q i) → least n p ≡ least n q
unfolding least
least-eq zero p q h = refl
least-eq (suc n) p q h =
    let a = any-eq n p q (λ i l. h i (omega arith)) in
    let e = least-eq n p q (λ i l. h i (omega arith)) in
    let f = h n (omega arith) in
    rw (a, e, f)

-- what lies behind the front does not matter
pub place-in-front : (numbers : List ℕ) (count n : ℕ) → count ≤ length numbers → place_among (take count numbers) (length (take count numbers)) n ≡ place_among numbers count n
unfolding place_among
place-in-front numbers count n h = rw (length-take-le count numbers h) (least-eq count _ _ (λ i l. ap (λ (x : ℕ). eqb x n) (get_or-take count numbers i 0 l)))

-- ---- the losses of rows

module _ (numbers amounts : List ℕ) (count n : ℕ) (few : count ≤ 256) (long : length amounts ≡ 256) where
  pub loss-named : (p : ℕ) → place_among (take count numbers) (length (take count numbers)) n ≡ p → p < length (take count numbers) → length (take count numbers) ≡ count
      → get_or amounts p 0 ≡ loss_for (take count numbers) (take count amounts) n
  unfolding loss_for
  loss-named p e l q = sym (ap (λ (i : ℕ). get_or (take count amounts) i 0) e ∙ get_or-take count amounts p 0 (omega (arith, l, q)))

  pub loss-not-named : place_among (take count numbers) (length (take count numbers)) n ≡ length (take count numbers) → length (take count numbers) ≡ count
      → 0 ≡ loss_for (take count numbers) (take count amounts) n
  unfolding loss_for
  loss-not-named e q = sym (get_or-eq_default (take count amounts) 0 (omega (arith, e, q, length-take-le count amounts (omega (arith, few, long)))))

found : (numbers : List ℕ) (count n : ℕ) (place : Option ℕ) → PlaceAmong numbers count n place → is_some place ≡ ltb (place_among numbers count n) count
found numbers count n None e = sym (le-ltb (place_among numbers count n) count (omega arith))
found numbers count n (Some p) e = sym (lt-ltb (place_among numbers count n) count (omega arith))

pub held_more : (rows : List ℕ) (n : ℕ) (numbers : List ℕ) (i : ℕ) (place : Option ℕ) (ok : Bool) → ok ≡ all i (λ j. ltb (place_among rows n (get_or numbers j 0)) n)
    → PlaceAmong rows n (get_or numbers i 0) place → (ok && is_some place) ≡ all (i + 1) (λ j. ltb (place_among rows n (get_or numbers j 0)) n)
held_more rows n numbers i place ok e f = rw (e, found rows n (get_or numbers i 0) place f) (sym (all-step i (λ j. ltb (place_among rows n (get_or numbers j 0)) n)))

-- ---- what one line says

module _ (line : List ℕ) where
  pub says_nothing : {t : Bool} → t ≡ ends_at line 0 → t ≡ true → Nothing ≡ loss_said line
  unfolding loss_said
  says_nothing e q = pick_first _ (sym e ∙ q) refl

  module _ {t : Bool} {g : Got} {w : Loss} (e : t ≡ ends_at line 0) (q : t ≡ false) (f : g ≡ number_at line 0) where
    says : w ≡ account_said line g → w ≡ loss_said line
    unfolding loss_said
    says h = pick_second _ (sym e ∙ q) (h ∙ ap (account_said line) f)

    pub no_number : g.value ≡ 18446744073709551615 → w ≡ Bad 1 → w ≡ loss_said line
    no_number n h = says (pick_first _ (eq-eqb _ _ n) h)

    module _ (n : g.value ≡ 18446744073709551615 → ⊥) where
      pub too_large : 65535 < g.value → w ≡ Bad 2 → w ≡ loss_said line
      too_large l h = says (pick_second _ (ne_eqb _ _ n) (pick_first _ (lt-ltb _ _ l) h))

      module _ (l : g.value ≤ 65535) {k : Got} (m : k ≡ number_at line g.next) where
        amounts-to : w ≡ amount_said line g.value k → w ≡ loss_said line
        amounts-to h = says (pick_second _ (ne_eqb _ _ n) (pick_second _ (le-ltb _ _ l) (h ∙ ap (amount_said line g.value) m)))

        pub no-amount : k.value ≡ 18446744073709551615 → w ≡ Bad 3 → w ≡ loss_said line
        no-amount a h = amounts-to (pick_first _ (eq-eqb _ _ a) h)

        module _ (a : k.value ≡ 18446744073709551615 → ⊥) {u : Bool} (d : u ≡ ends_at line k.next) where
          pub more-stands : u ≡ false → w ≡ Bad 4 → w ≡ loss_said line
          more-stands z h = amounts-to (pick_second _ (ne_eqb _ _ a) (pick_second _ (sym d ∙ z) h))

          pub says-loss : u ≡ true → w ≡ Of g.value k.value → w ≡ loss_said line
          says-loss z h = amounts-to (pick_second _ (ne_eqb _ _ a) (pick_first _ (sym d ∙ z) h))

-- ---- a line more

module _ (numbers amounts : List ℕ) (account amount : ℕ) (place : Option ℕ) (e : PlaceAmong numbers (length numbers) account place) {t : Bool} (here : t ≡ is_some place) where
  same : ltb (place_among numbers (length numbers) account) (length numbers) ≡ t
  same = sym (here ∙ found numbers (length numbers) account place e)

  pub names-twice : t ≡ true → named_by numbers amounts (Of account amount) ≡ fails 5
  unfolding named_by
  names-twice l = pick_yes _ _ _ (same ∙ l)

  module _ (l : t ≡ false) where
    pub names_none : length numbers ≡ 256 → named_by numbers amounts (Of account amount) ≡ fails 6
    unfolding named_by
    names_none z = pick_no _ _ _ (same ∙ l) ∙ pick_yes _ _ _ (le-leb 256 (length numbers) (omega arith))

    pub names-more : length numbers < 256 → named_by numbers amounts (Of account amount) ≡ names (numbers ++ (account ∷ [])) (amounts ++ (amount ∷ []))
    unfolding named_by
    names-more z = pick_no _ _ _ (same ∙ l) ∙ pick_no _ _ _ (lt-leb 256 (length numbers) z)

-- the front of an array, after one element more
pub front-more : (xs : List ℕ) (count x : ℕ) → count < length xs → take (count + 1) (set xs count x) ≡ take count xs ++ (x ∷ [])
front-more xs count x l = ap (λ (k : ℕ). take k (set xs count x)) (add-one count) ∙ take-suc-set xs count x l

-- ---- all lines

module _ (line : ℕ) (ns ms : List ℕ) (xs : List (List ℕ)) where
  pub no_more : xs ≡ [] → told_from line ns ms xs ≡ losses ns ms
  unfolding told_from
  no_more e = rw e

  module _ (x : List ℕ) (rest : List (List ℕ)) (e : xs ≡ x ∷ rest) where
    pub line-fails : (n : ℕ) → named_by ns ms (loss_said x) ≡ fails n → told_from line ns ms xs ≡ wrong line n
    unfolding told_from told_by
    line-fails n q = rw (e, q)

    pub line-names : (ns' ms' : List ℕ) → named_by ns ms (loss_said x) ≡ names ns' ms' → told_from line ns ms xs ≡ told_from (suc line) ns' ms' rest
    unfolding told_from told_by
    line-names ns' ms' q = rw (e, q)

-- ---- at a place of a text

module _ (text : List ℕ) (place : ℕ) (line : ℕ) (l : Losses) where
  pub text-over : length text ≤ place → told_from line (take l.count l.numbers) (take l.count l.list) (lines_of (drop place text)) ≡ told_of text
      → losses (take l.count l.numbers) (take l.count l.list) ≡ told_of text
  text-over h i = sym (no_more line _ _ _ (no_line text place h)) ∙ i

  module _ (end : ℕ) {loss : Loss} {l' : Losses} (h : place < length text) (e : end ≡ place + line_length (drop place text))
      (i : told_from line (take l.count l.numbers) (take l.count l.list) (lines_of (drop place text)) ≡ told_of text)
      (o : loss ≡ loss_said (take (end - place) (drop place text))) where
    here : (p : Result ⊤ ℕ) → Puts l loss l' p
        → named_by (take l.count l.numbers) (take l.count l.list) (loss_said (take (end - place) (drop place text))) ≡ named_then l' p
    here p s = ap (named_by (take l.count l.numbers) (take l.count l.list)) (sym o) ∙ s.is

    pub text-fails : (fault : ℕ) → Puts l loss l' (Err fault) → wrong line fault ≡ told_of text
    text-fails fault s = sym (line-fails line _ _ _ _ _ (line-here text place end h e) fault (here (Err fault) s)) ∙ i

    pub text-goes : (u : ⊤) → Puts l loss l' (Ok u)
        → told_from (line + 1) (take l'.count l'.numbers) (take l'.count l'.list) (lines_of (drop end text)) ≡ told_of text
    text-goes u s =
        ap (λ (k : ℕ). told_from k (take l'.count l'.numbers) (take l'.count l'.list) (lines_of (drop end text))) (add-one line)
        ∙ sym (line-names line _ _ _ _ _ (line-here text place end h e) _ _ (here (Ok u) s)) ∙ i
