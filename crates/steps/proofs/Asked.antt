-- What a record asks of its row, and what the functions of its code answer, is the record's change.
use Rattle.std.proofs.Common.{◌≡◌, ℕ, ◌<◌, ◌≤◌, Bool, true, false, ◌&&◌, leb, List, get_or, sym, refl, ap, ◌∙◌, subst, arith, leb-true}
use Rattle.sums.specs.Choice.{pick}
use Rattle.sums.proofs.Choices.{and_split}
use Rattle.rows.specs.declared.Kinds.{Kinds}
use Rattle.rows.specs.Rows.{ceiling}
use Rattle.rows.specs.Facts.{KindsWithin}
use Rattle.rows.specs.Ranges.{ceilings}
use Rattle.dayfile.specs.declared.Record.{Record}
use Rattle.rules.specs.Refusals.{is_opening}
use Rattle.table.specs.declared.Marks.{Marks}
use Rattle.codes.specs.declared.asked.Asked.{Asked}
use Rattle.codes.specs.declared.asked.Asked.TheVariants.{Refused, Bare, One, Four}
use Rattle.codes.specs.Own.{early_number, alive_in, deemed_under_in, Held, Answered, Opens, numbers_with, Retires}
use Rattle.codes.specs.Asking.{names_kinds, names_one, names_margin, one_amount, meant, asked_of, AnswersKinds, AnswersOne}
use Rattle.codes.proofs.Asking.{refused-early, bare-early, one-early, kinds-early, bare-opens}
use Rattle.codes.proofs.ByCode.{retire-answered}
use Rattle.steps.specs.declared.Request.{Request}
use Rattle.steps.specs.Steps.{Asks, Ready, Decided, gone_with}
use Rattle.steps.proofs.Carried.{early-is, ready-holds, ready-amounts, ready-known, code-opens, opening-not, refused-at, amends-at, opens_at}

module _ (count serial : ℕ) (m : Marks) (w : List ℕ) (modes : List Bool) (needs : List ℕ) (next : ℕ) (numbers : List ℕ) (h : Ready count serial m w modes needs next numbers)
    (y : Request) (r : Record) (q : Asks (alive_in m.live count y.place) serial y r) where
  abbrev code : ℕ
  code = y.code

  abbrev a : ℕ
  a = y.place

  abbrev asked : Asked
  asked = y.asked

  abbrev under : List ℕ
  under = deemed_under_in w needs

  -- the record came to x, and left these words
  abbrev Left : ℕ → Marks → List ℕ → List ℕ → Type 0
  Left x n u numbers' = Decided count serial m w modes needs next numbers r (gone_with x (is_opening r) count serial next) n u numbers'

  told : (x : Asked) → meant asked ≡ x → asked_of (alive_in m.live count r.account) serial r ≡ x
  told x e = ap (λ p. asked_of (alive_in m.live count p) serial r) q.placed ∙ sym q.is ∙ e

  pub refused-left : (n : ℕ) → asked ≡ Refused n → Left n m w numbers
  refused-left n e =
      let t = refused-early _ serial r n (told _ (ap meant e)) in
      refused-at count serial m w modes needs next numbers h r n _ (early-is count serial m w modes needs next numbers h r n t.0 t.1) t.1

  -- where no line before 8 refuses it
  module _ (z : 0 ≡ early_number (alive_in m.live count r.account) serial r) where
    held : Held m w under a
    held = subst (Held m w under) q.placed (ready-holds count serial m w modes needs next numbers h r 0 z refl)

    amended : is_opening r ≡ false → (on : Bool) → on ≡ get_or modes a false → (x : ℕ) (n : Marks) (u : List ℕ) → Answered count m w under on r x n u → Left x n u numbers
    amended o on e x n u g =
        amends-at count serial m w modes needs next numbers h r 0 z refl o x n u (subst (λ t. Answered count m w under t r x n u) (e ∙ ap (λ p. get_or modes p false) (sym q.placed)) g)

  module _ (e : asked ≡ Bare) where
    bare : (0 ≡ early_number (alive_in m.live count r.account) serial r) × (names_kinds r.code ≡ false) × (names_one r.code ≡ false)
    bare = bare-early _ serial r (told _ (ap meant e))

    pub bare-held : Held m w under a
    bare-held = held bare.0

    pub opens-left : (code ≡ 11 → ⊥) → (x : ℕ) (n : Marks) (u numbers' : List ℕ) → Opens m w count next code a x n u → numbers' ≡ numbers_with x count next numbers → Left x n u numbers'
    opens-left ne x n u numbers' o p =
        let low = bare-opens r.code (ready-known count serial m w modes needs next numbers h r 0 bare.0 refl) bare.1 bare.2 (λ k. ne (sym q.coded ∙ k)) in
        opens_at count serial m w modes needs next numbers h r 0 bare.0 refl (code-opens count serial m w modes needs next numbers h r 0 bare.0 refl low) x n u numbers'
        (rw (q.coded, q.placed) o) p

    pub retires-left : code ≡ 11 → (x : ℕ) (n : Marks) → Retires m w count a x n → Left x n w numbers
    retires-left k x n o =
        let c : r.code ≡ 11 = q.coded ∙ k in
        amended bare.0 (opening-not r (omega (arith, c))) _ refl x n w (retire-answered count m w under _ r c (rw q.placed o))

  module _ (z : ℕ) (e : asked ≡ One z) where
    one : (0 ≡ early_number (alive_in m.live count r.account) serial r) × (names_one r.code ≡ true) × (one_amount r ≡ z)
    one = one-early _ serial r z (told _ (ap meant e))

    pub one-held : Held m w under a × (z ≤ ceiling) × (names_one code ≡ true)
    unfolding pick
    one-held =
        let g = ready-amounts count serial m w modes needs next numbers h r 0 one.0 refl in
        (held one.0, rw (← one.2) (picked-most (names_margin r.code) g.margin g.pledged), rw (← q.coded) one.1)
      where
        picked-most : (t : Bool) {x u : ℕ} → x ≤ ceiling → u ≤ ceiling → pick t x u ≤ ceiling
        picked-most true l k = l
        picked-most false l k = k

    pub one_left : (on : Bool) → on ≡ get_or modes a false → (x : ℕ) (u : List ℕ) → AnswersOne m w under on a code z x u → Left x m u numbers
    one_left on o x u g = amended one.0 (opening-not r (past_three r.code one.1)) on o x m u (g count r (q.coded, q.placed, one.2))
      where
        past_three : (c : ℕ) → names_one c ≡ true → 3 < c
        past_three c n = omega (arith, leb-true 8 c (and_split (leb 8 c) (leb c 13) (and_split (leb 8 c && leb c 13) _ n).0).0)

  module _ (k : Kinds) (e : meant asked ≡ Four k) where
    four : (0 ≡ early_number (alive_in m.live count r.account) serial r) × (names_kinds r.code ≡ true) × (r.kinds ≡ k)
    four = kinds-early _ serial r k (told _ e)

    pub kinds-held : Held m w under a × KindsWithin k ceilings × (names_kinds code ≡ true)
    kinds-held = (
      held four.0,
      rw (← four.2) (ready-amounts count serial m w modes needs next numbers h r 0 four.0 refl).kinds,
      rw (← q.coded) four.1,
    )

    pub kinds-left : (on : Bool) → on ≡ get_or modes a false → (x : ℕ) (u : List ℕ) → AnswersKinds m w under on a code k x u → Left x m u numbers
    kinds-left on o x u g = amended four.0 (opening-not r (past_three r.code four.1)) on o x m u (g count r (q.coded, q.placed, four.2))
      where
        past_three : (c : ℕ) → names_kinds c ≡ true → 3 < c
        past_three c n = omega (arith, leb-true 4 c (and_split (leb 4 c) (leb c 7) n).0)
