-- The loop that tells: what holds at each turn, one record more, and where it stops.
use mathlib.Core.Bool.{Bool, true, false, false≢true, ◌&&◌}
use mathlib.Core.List.{List, [], ◌∷◌, ◌++◌, append_assoc, append-nil}
use mathlib.Core.Logic.{◌⊎◌, inl, inr}
use mathlib.Core.Path.{◌≡◌, refl, sym, ap, subst, ◌∙◌}
use Prim.Native.Nat.{ℕ, suc, ◌+◌, ◌-◌, ◌≤◌}
use native.Mathlib.Omega.{arith}
use lib.Dec.{leb}
use lib.ListN.{get_or}
use Rattle.sums.specs.Choice.{pick}
use Rattle.sums.proofs.Choices.{pick_yes, pick_no, and_split}
use Rattle.rows.specs.declared.Book.{Book}
use Rattle.rows.specs.Rows.{place_of}
use Rattle.book.specs.Facts.{Sound}
use Rattle.dayfile.specs.declared.Record.{Record}
use Rattle.dayfile.specs.declared.Found.TheVariants.{End as NoBytes, Cut as TooFew, Whole}
use Rattle.dayfile.specs.Reading.{record_of, found_at}
use Rattle.rules.specs.declared.Change.{Change}
use Rattle.rules.specs.declared.Change.TheVariants.{Refuse, Put, Open}
use Rattle.rules.specs.Effects.{moved_on, book_after}
use Rattle.rules.specs.Numbered.{act_of}
use Rattle.codes.specs.declared.asked.Head.{Head}
use Rattle.codes.specs.Asking.{record_at, Heads}
use Rattle.passing.specs.Most.{most_of, most_refusal}
use Rattle.passing.proofs.Exactly.{quick-most}
use Rattle.desk.specs.Answers.{refusal_in}
use Rattle.desk.specs.Steps.{step_of}
use Rattle.steps.specs.declared.At.{At}
use Rattle.steps.specs.declared.Gone.{Gone}
use Rattle.steps.specs.declared.Lent.{Lent}
use Rattle.steps.specs.Steps.{refusal_shown, given_shown, book_in, at_after, Going, SteppedOn}
use Rattle.records.specs.LineNumbers.{numbers_of_line}
use Rattle.records.specs.Runs.{run_of}
use Rattle.records.proofs.Numbers.{numbers_by, numbers-by}
use Rattle.records.proofs.Turning.{Loop}
use Rattle.records.proofs.Rounds.{turn_on}
use Rattle.text.specs.Numbers.{spaced}
use Rattle.text.specs.Inner.{Puts}
use Rattle.text.proofs.Puts.{puts_none, puts-as, and_then}
use Rattle.telling.specs.Told.{told_of}
use Rattle.telling.specs.Explained.{is_explained, two_more, line_told}
use Rattle.telling.specs.Inner.{head_only, line_by}
use Rattle.telling.proofs.Pieces.{none_told}

-- ---- a record's line by the book after it

-- the next serial moves nothing that `most` looks at
serial-aside : (b : Book) (r : Record) → Sound b → Sound (moved_on b) → most_of (moved_on b) r ≡ most_of b r
serial-aside b r s t = quick-most (moved_on b) r t ∙ sym (quick-most b r s)

-- a refusal leaves how much would have passed as it was
same-most : (b b' : Book) (r : Record) (place : ℕ) (c : Change) → Sound b → Sound b' → b' ≡ book_after b place c → is_explained (refusal_shown c) r.named ≡ true → most_of b' r ≡ most_of b r
same-most b b' r place (Refuse n) s t e h = by (leb n 3) refl
  where
    by : (z : Bool) → leb n 3 ≡ z → most_of b' r ≡ most_of b r
    by true q = ap (λ x. most_of x r) (e ∙ pick_yes (leb n 3) b (moved_on b) q)
    by false q =
        let f = e ∙ pick_no (leb n 3) b (moved_on b) q in
        ap (λ x. most_of x r) f ∙ serial-aside b r s (subst Sound f t)
same-most b b' r place (Put x) s t e h = absurd (false≢true h)
same-most b b' r place (Open x) s t e h = absurd (false≢true h)

same_more : (explained : Bool) (b b' : Book) (r : Record) (place : ℕ) (c : Change) → Sound b → Sound b' → b' ≡ book_after b place c
    → two_more (explained && is_explained (refusal_shown c) r.named) (most_of b r) ≡ two_more (explained && is_explained (refusal_shown c) r.named) (most_of b' r)
unfolding pick
same_more explained b b' r place c s t e = by (explained && is_explained (refusal_shown c) r.named) refl
  where
    by : (z : Bool) → (explained && is_explained (refusal_shown c) r.named) ≡ z → two_more z (most_of b r) ≡ two_more z (most_of b' r)
    by true h = ap (two_more true) (sym (same-most b b' r place c s t e (and_split explained (is_explained (refusal_shown c) r.named) h).1))
    by false h = refl

refusal-shown : (b : Book) (r : Record) → Sound b → refusal_in (step_of b r).answer.outcome ≡ refusal_shown (act_of b r)
unfolding numbers_of_line
refusal-shown b r s = ap (λ l. get_or l 3 0) (numbers-by b r (act_of b r) s refl)

-- the line of a record by the book after it
abbrev line_after : Bool → Book → Record → Gone → List ℕ
line_after explained b r x =
    spaced ((r.serial ∷ r.code ∷ r.account ∷ x.refusal ∷ x.given ∷ []) ++ two_more (explained && is_explained x.refusal r.named) (most_of b r))

line-is : (explained : Bool) (b b' : Book) (r : Record) (x : Gone) → Sound b → Sound b' → b' ≡ book_after b (place_of b r.account) (act_of b r)
    → x.refusal ≡ refusal_shown (act_of b r) → x.given ≡ given_shown b.next (act_of b r) → line_after explained b' r x ≡ line_told explained b r
unfolding line_told
line-is explained b b' r x s t e p q =
    let more : ℕ → Book → List ℕ = λ n z. two_more (explained && is_explained n r.named) (most_of z r) in
    ap (λ n. spaced ((r.serial ∷ r.code ∷ r.account ∷ n ∷ x.given ∷ []) ++ more n b')) p
    ∙ ap (λ n. spaced ((r.serial ∷ r.code ∷ r.account ∷ refusal_shown (act_of b r) ∷ n ∷ []) ++ more (refusal_shown (act_of b r)) b')) q
    ∙ ap (λ l. spaced (numbers_by r b.next (act_of b r) ++ l)) (sym (same_more explained b b' r (place_of b r.account) (act_of b r) s t e))
    ∙ ap (λ l. spaced (l ++ more (refusal_shown (act_of b r)) b)) (sym (numbers-by b r (act_of b r) s refl))
    ∙ ap (λ n. spaced (numbers_of_line (step_of b r).answer ++ more n b)) (sym (refusal-shown b r s))

-- the head is all of a record that `most` looks at
abbrev with_account : Head → ℕ → Record
with_account h a = head_only (record { code = h.code; named = h.named; serial = h.serial; account = a })

head-most : (b : Book) (s : List ℕ) (place : ℕ) (h : Head) → most_of b (with_account h (record_at s place h).account) ≡ most_of b (record_at s place h)
unfolding record_of most_of most_refusal
head-most b s place h = refl

head-line : {s : List ℕ} {place : ℕ} {h : Head} → Heads s place h → (explained : Bool) (b : Book) (x : Gone) → line_by explained b h x ≡ line_after explained b (record_at s place h) x
unfolding record_of
head-line {s} {place} {h} g explained b x =
    let more : Record → List ℕ = λ m. two_more (explained && is_explained x.refusal h.named) (most_of b m) in
    ap (λ n. spaced ((n ∷ h.code ∷ h.account ∷ x.refusal ∷ x.given ∷ []) ++ more (head_only h))) g.serial
    ∙ ap (λ n. spaced (((record_at s place h).serial ∷ h.code ∷ n ∷ x.refusal ∷ x.given ∷ []) ++ more (with_account h n))) g.account
    ∙ ap (λ m. spaced (((record_at s place h).serial ∷ h.code ∷ (record_at s place h).account ∷ x.refusal ∷ x.given ∷ []) ++ two_more (explained && is_explained x.refusal h.named) m)) (head-most b s place h)

-- ---- the text

-- s is the piece; with ₀ what was there where the loop began; whatever number of records it is held to
pub record Told (tell : Book → Record → List ℕ) (s : List ℕ) (text₀ : List ℕ) (b₀ : Book) (text : List ℕ) (b : Book) (place read put : ℕ) : Type 0 where
  pub so_far : List ℕ
  pub puts : Puts text₀ 0 so_far text put
  pub none : read ≡ 0 → put ≡ 0
  pub rest : (n : ℕ) → read ≤ n → so_far ++ told_of tell s (n - read) b place ≡ told_of tell s n b₀ 0

module _ (tell : Book → Record → List ℕ) (s : List ℕ) (text₀ : List ℕ) (b₀ : Book) where
  pub nothing-told : Told tell s text₀ b₀ text₀ b₀ 0 0 0
  nothing-told = record {
    so_far = [];
    puts = puts_none text₀ 0 refl (omega arith);
    none = λ e. refl;
    rest = λ n l. let e : n - 0 ≡ n = omega arith in ap (λ k. told_of tell s k b₀ 0) e;
  }

  module _ {text : List ℕ} {b : Book} {place read put : ℕ} (g : Told tell s text₀ b₀ text b place read put) where
    pub one-more-told : (r : Record) (next : ℕ) → found_at s place ≡ Whole r next → {text' : List ℕ} {put' : ℕ} → Puts text put (tell b r) text' put'
        → {b' : Book} → b' ≡ (step_of b r).book → Told tell s text₀ b₀ text' b' next (read + 1) put'
    unfolding told_of
    one-more-told r next f {text'} {put'} p {b'} e = record {
      so_far = g.so_far ++ tell b r;
      puts = and_then g.so_far (tell b r) g.puts p;
      none = λ z. absurd (omega arith);
      rest = λ n l.
          ap (λ z. (g.so_far ++ tell b r) ++ told_of tell s (n - (read + 1)) z next) e
          ∙ append_assoc g.so_far (tell b r) _ ∙ ap (λ z. g.so_far ++ z) (sym (turn n l)) ∙ g.rest n (omega arith);
    }
      where
        turn : (n : ℕ) → read + 1 ≤ n → told_of tell s (n - read) b place ≡ tell b r ++ told_of tell s (n - (read + 1)) (step_of b r).book next
        turn n l = let fuel : n - read ≡ suc (n - (read + 1)) = omega arith in rw (fuel, f)

    pub all_told : (n : ℕ) → read ≤ n → (n ≤ read) ⊎ ((found_at s place ≡ NoBytes) ⊎ (found_at s place ≡ TooFew)) → Puts text₀ 0 (told_of tell s n b₀ 0) text put
    all_told n l h = puts-as (sym (append-nil g.so_far) ∙ ap (λ z. g.so_far ++ z) (sym (none_told tell s (n - read) b place (at h))) ∙ g.rest n l) g.puts
      where
        at : (n ≤ read) ⊎ ((found_at s place ≡ NoBytes) ⊎ (found_at s place ≡ TooFew)) → (n - read ≡ 0) ⊎ ((found_at s place ≡ NoBytes) ⊎ (found_at s place ≡ TooFew))
        at (inl k) = inl (omega arith)
        at (inr e) = inr e

-- ---- the run, of which no numbers are put

-- whatever number of records it is held to
abbrev pub Runs : List ℕ → Book → Book → ℕ → ℕ → ℕ → Type 0
Runs s b₀ b place read done = (n : ℕ) → read ≤ n → Loop s n false [] b₀ 0 0 0 [] b place read done

pub begun : (s : List ℕ) (b₀ : Book) → Sound b₀ → Runs s b₀ b₀ 0 0 0
unfolding pick
begun s b₀ h n l = let e : n - 0 ≡ n = omega arith in record {
  within = omega arith;
  fewer = omega arith;
  sound = h;
  same = refl;
  space = λ q. absurd (false≢true q);
  runs = ap (λ k. run_of s k b₀ 0 0 0) e;
  numbers = refl;
}

-- ---- one record more, on words in place

pub sound-at : {a a' : At} {was : List Bool} {l : Lent} → Going a' was l → a ≡ a' → Sound (book_in a was l)
sound-at {was = was} {l = l} g e = subst (λ z. Sound (book_in z was l)) (sym e) g.sound

step-book : (b : Book) (r : Record) → (step_of b r).book ≡ book_after b (place_of b r.account) (act_of b r)
unfolding step_of
step-book b r = refl

module _ (explained : Bool) {s : List ℕ} {text₀ : List ℕ} {b₀ : Book} {text : List ℕ} {at : At} {was : List Bool} {l : Lent} {place read done put : ℕ}
    (g : Runs s b₀ (book_in at was l) place read done) (t : Told (line_told explained) s text₀ b₀ text (book_in at was l) place read put) {h : Head} (d : Heads s place h)
    (next : ℕ) (f : found_at s place ≡ Whole (record_at s place h) next) {x : Gone} {k : Lent} (e : SteppedOn at was l (record_at s place h) x k) (text' : List ℕ) (put' : ℕ) where
  abbrev Goes : At → Type 0
  Goes a = Runs s b₀ (book_in a was k) next (read + 1) (done + x.carried) × Going a was k × Told (line_told explained) s text₀ b₀ text' (book_in a was k) next (read + 1) put'

  abbrev Tells : At → Type 0
  Tells a = Puts text put (line_by explained (book_in a was k) h x) text' put'

  goes_on : Tells (at_after at x) → Goes (at_after at x)
  goes_on p =
      let b = book_in at was l in
      let r = record_at s place h in (
        λ n m. turn_on s n false [] b₀ 0 0 0 [] at was l place read done (g n (omega arith)) r next (omega arith) f x k e [] (sym (pick_no false _ [] refl)),
        e.ready,
        one-more-told (line_told explained) s text₀ b₀ t r next f
            (puts-as (head-line d explained _ x ∙ line-is explained b _ r x (g read (omega arith)).sound e.ready.sound e.book e.refusal e.given) p) (e.book ∙ sym (step-book b r)),
      )

  -- where the book then stands
  pub goes : (a : At) → a ≡ at_after at x → Tells a → Goes a
  goes a q = subst (λ z. Tells z → Goes z) (sym q) goes_on
