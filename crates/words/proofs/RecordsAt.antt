-- The record at a place of a day file.
use Rattle.std.proofs.Common.{◌≡◌, ℕ, zero, suc, ◌+◌, ◌-◌, ◌<◌, ◌≤◌, Bool, true, false, ◌||◌, List, [], ◌∷◌, ◌++◌, length, take, drop, sym, refl, ap, ◌∙◌, append-nil, arith, length-drop, drop_of_length-le, length-take-le, take_all, drop-drop}
use lib.Seq.{take-append-le, drop-append-le}
use Rattle.numbers.specs.Bytes.{Bytes}
use Rattle.numbers.proofs.Numbers.{bytes_drop}
use Rattle.dayfile.specs.declared.Record.{Record}
use Rattle.dayfile.specs.declared.Found.{Found}
use Rattle.dayfile.specs.declared.Found.TheVariants.{End as NoBytes, Cut as TooFew, Whole}
use Rattle.dayfile.specs.Reading.{found_at}
use Rattle.dayfile.proofs.Places.{next-least, next-within, end-at, at-end}
use Rattle.dayfile.proofs.Growing.{further, found-further, found-longer}
use Rattle.words.specs.declared.piece.End.{End}
use Rattle.words.specs.Texts.{records_by, records_to, records_of}
use Rattle.words.specs.Pieces.{is_whole}
use Rattle.words.specs.Inner.{end_by, record_end}
use Rattle.words.proofs.Files.{Part, cut-part, found-taken, whole_part}

-- as many turns as there are bytes are enough
enough_turns : (k j : ℕ) (s : List ℕ) → length s ≤ k → length s ≤ j → records_to k s ≡ records_to j s
unfolding records_to records_by
enough_turns zero zero s h m = refl
enough_turns zero (suc j) s h m = rw (at-end s 0 h)
enough_turns (suc k) zero s h m = rw (at-end s 0 m)
enough_turns (suc k) (suc j) s h m = by (found_at s 0) refl (enough_turns k j)
  where
    by : (f : Found) → found_at s 0 ≡ f → ((l : List ℕ) → length l ≤ k → length l ≤ j → records_to k l ≡ records_to j l) → records_by (records_to k) s f ≡ records_by (records_to j) s f
    by NoBytes e go = refl
    by TooFew e go = refl
    by (Whole r next) e go =
        let n = next-least s 0 e in
        let d = length-drop next s in
        ap (λ (l : List (List ℕ)). take next s ∷ l) (go (drop next s) (omega arith) (omega arith))

pub no_record : (s : List ℕ) (at : ℕ) → length s ≤ at → records_of (drop at s) ≡ []
unfolding records_to
no_record s at h = ap records_of (drop_of_length-le s {i = at} h)

-- the first record, and the rest
pub records-whole : (s : List ℕ) {r : Record} {next : ℕ} → found_at s 0 ≡ Whole r next → records_of s ≡ take next s ∷ records_of (drop next s)
unfolding records_to records_by
records-whole [] f = absurd (omega (arith, next-least [] 0 f, next-within [] 0 f))
records-whole (b ∷ s) {r} {next} f =
    rw f (ap (λ (l : List (List ℕ)). take next (b ∷ s) ∷ l) (enough_turns (length s) (length (drop next (b ∷ s))) (drop next (b ∷ s)) (omega (arith, length-drop next (b ∷ s), next-least (b ∷ s) 0 f)) (omega arith)))

pub records-cut : (s : List ℕ) → found_at s 0 ≡ TooFew → records_of s ≡ s ∷ []
unfolding records_to records_by
records-cut [] f = absurd (let e = at-end [] 0 (omega arith) in let z : ◌≡◌ {A = ℕ} 0 1 = cc in omega arith)
records-cut (b ∷ s) f = rw f

last_one : (last : Bool) → (last || false) ≡ true → last ≡ true
last_one true e = refl
last_one false e = e

-- it stays the first where more follows
pub records-stay : (last : Bool) (more : List ℕ) → (last ≡ true → more ≡ []) → (t x : List ℕ) (xs : List (List ℕ)) → records_of t ≡ x ∷ xs → (last || is_whole (found_at x 0)) ≡ true
    → (records_of (t ++ more) ≡ x ∷ records_of (drop (length x) t ++ more)) × (records_of (drop (length x) t) ≡ xs)
records-stay last more m t x xs e r = by (found_at t 0) refl
  where
    at_last : last ≡ true → (records_of (drop (length x) t) ≡ xs) → (records_of (t ++ more) ≡ x ∷ records_of (drop (length x) t ++ more)) × (records_of (drop (length x) t) ≡ xs)
    at_last u f = (rw (m u, append-nil t, append-nil (drop (length x) t), f) e, f)

    by : (f : Found) → found_at t 0 ≡ f → (records_of (t ++ more) ≡ x ∷ records_of (drop (length x) t ++ more)) × (records_of (drop (length x) t) ≡ xs)
    by NoBytes f = absurd (let z : records_of t ≡ [] = no_record t 0 (end-at t 0 f) in let c : ◌≡◌ {A = ℕ} 0 1 = cc in omega arith)
    by TooFew f =
        let c = records-cut t f in
        let ex : x ≡ t = cc in
        let exs : xs ≡ [] = cc in
        at_last (last_one last (rw (ex, f) at r)) (rw (ex, exs) (no_record t (length t) (omega arith)))
    by (Whole q n) f =
        let c = records-whole t f in
        let ex : x ≡ take n t = cc in
        let exs : records_of (drop n t) ≡ xs = cc in
        let w = next-within t 0 f in
        let k : length x ≡ n = ap length ex ∙ length-take-le n t w in
        let g = records-whole (t ++ more) (found-longer t more 0 q n f) in
        rw k (g ∙ rw (take-append-le n t more w, drop-append-le n t more w, ← ex), exs)

-- ---- at a place

pub record Here (s : List ℕ) (at : ℕ) (e : End) : Type 0 where
  pub more : at < e.place
  pub within : e.place ≤ length s
  pub here : records_of (drop at s) ≡ take (e.place - at) (drop at s) ∷ records_of (drop e.place s)
  pub whole : is_whole (found_at (take (e.place - at) (drop at s)) 0) ≡ e.whole
  pub part : Part (take (e.place - at) (drop at s))

module _ (s : List ℕ) (at : ℕ) (y : Bytes s) (h : at < length s) where
  abbrev l : List ℕ
  l = drop at s

  further-on : {f : Found} → found_at l 0 ≡ f → found_at s at ≡ further at f
  further-on e = let k : at + 0 ≡ at = omega arith in ap (found_at s) (sym k) ∙ found-further s at 0 ∙ ap (further at) e

  cut-here : found_at l 0 ≡ TooFew → Here s at (end_by s TooFew)
  unfolding end_by
  cut-here f =
      let all : take (length s - at) l ≡ l = take_all (length s - at) l (omega (arith, length-drop at s)) in
      record {
        more = h;
        within = omega arith;
        here = records-cut l f ∙ ap (λ (x : List ℕ). x ∷ []) (sym all) ∙ ap (λ (x : List (List ℕ)). take (length s - at) l ∷ x) (sym (no_record s (length s) (omega arith)));
        whole = rw (all, f);
        part = rw all (cut-part l (bytes_drop at s y) f);
      }

  whole_here : {r : Record} {n : ℕ} → found_at l 0 ≡ Whole r n → Here s at (end_by s (Whole r (at + n)))
  unfolding end_by
  whole_here {r} {n} f =
      let k : at + n - at ≡ n = omega arith in
      let b = bytes_drop at s y in
      record {
        more = omega (arith, next-least l 0 f);
        within = omega (arith, next-within l 0 f, length-drop at s);
        here = rw k (records-whole l f ∙ ap (λ (x : List ℕ). take n l ∷ records_of x) (drop-drop n at s));
        whole = rw (k, found-taken l b f);
        part = rw k (whole_part l b f);
      }

  pub record-here : Here s at (record_end s at)
  unfolding record_end
  record-here = by (found_at l 0) refl
    where
      by : (f : Found) → found_at l 0 ≡ f → Here s at (end_by s (found_at s at))
      by NoBytes f = absurd (omega (arith, end-at l 0 f, length-drop at s))
      by TooFew f = rw (further-on f) (cut-here f)
      by (Whole r n) f = rw (further-on f) (whole_here f)

pub ends_at : (s : List ℕ) (at : ℕ) → Bytes s → at < length s → {e : End} → e ≡ record_end s at → Here s at e
ends_at s at y h d = rw d (record-here s at y h)
