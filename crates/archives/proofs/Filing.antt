-- Lines put behind a file: a file that was filed has every line, and filing it again changes nothing.
use mathlib.Core.Bool.{Bool, true, false}
use mathlib.Core.List.{List, [], ◌∷◌, ◌++◌, append-nil, append_assoc}
use mathlib.Core.Path.{◌≡◌, refl, sym, ap, ◌∙◌}
use Prim.Native.Nat.{ℕ, zero, suc, ◌/◌, ◌<◌}
use native.Mathlib.Omega.{arith}
use native.Mathlib.Decide.{ℕ_discrete}
use lib.ListN.{length, length-append}
use Rattle.sums.proofs.Choices.{pick_yes, pick_no}
use Rattle.text.specs.Numbers.{space, newline, followed, decimal}
use Rattle.text.specs.Words.{and_space, sort_word}
use Rattle.archives.specs.Entries.{entry_line, entry_at}
use Rattle.archives.specs.Files.{begins_behind, ended, has_from, has_line, with_line, filed_to, filed}
use Rattle.archives.proofs.Lines.{behind-both, behind-last, has_more, has-behind, has-itself}

-- a file with something behind it, or with nothing
pub record Longer (before after : List ℕ) : Type 0 where
  pub rest : List ℕ
  pub is : after ≡ before ++ rest

longer-same : (f : List ℕ) → Longer f f
longer-same f = record { rest = []; is = sym (append-nil f) }

longer-on : {f g h : List ℕ} → Longer f g → Longer g h → Longer f h
longer-on {f} a b = record { rest = a.rest ++ b.rest; is = b.is ∙ ap (λ (x : List ℕ). x ++ b.rest) a.is ∙ append_assoc f a.rest b.rest }

-- an entry's line ends in a newline
pub entry-ends : (t : Bool) (number sort tm : ℕ) → begins_behind t (entry_line number sort tm) ≡ true
unfolding entry_line
entry-ends t number sort tm =
    behind-both t (followed number space) _ ∙ behind-both _ (and_space (sort_word sort)) (followed tm newline) ∙ behind-last _ (decimal tm) newline

-- a file whose last line was ended
ended-ends : (f : List ℕ) → begins_behind true (ended f) ≡ true
unfolding ended
ended-ends f = by (begins_behind true f) refl
  where
    by : (t : Bool) → begins_behind true f ≡ t → begins_behind true (ended f) ≡ true
    by true e = ap (begins_behind true) (pick_yes (begins_behind true f) f _ e) ∙ e
    by false e = ap (begins_behind true) (pick_no (begins_behind true f) f _ e) ∙ behind-last true f newline

ended_same : (f : List ℕ) → begins_behind true f ≡ true → ended f ≡ f
unfolding ended
ended_same f e = pick_yes (begins_behind true f) f _ e

ended-longer : (f : List ℕ) → Longer f (ended f)
unfolding ended
ended-longer f = by (begins_behind true f) refl
  where
    by : (t : Bool) → begins_behind true f ≡ t → Longer f (ended f)
    by true e = record { rest = []; is = pick_yes (begins_behind true f) f _ e ∙ sym (append-nil f) }
    by false e = record { rest = newline ∷ []; is = pick_no (begins_behind true f) f _ e }

module _ (f line : List ℕ) where
  -- a line that is there is not put
  pub with-there : has_line f line ≡ true → with_line f line ≡ f
  unfolding with_line
  with-there e = pick_yes (has_line f line) f _ e

  pub with-missing : has_line f line ≡ false → with_line f line ≡ f ++ line
  unfolding with_line
  with-missing e = pick_no (has_line f line) f _ e

  with-longer : Longer f (with_line f line)
  with-longer = by (has_line f line) refl
    where
      by : (t : Bool) → has_line f line ≡ t → Longer f (with_line f line)
      by true e = record { rest = []; is = with-there e ∙ sym (append-nil f) }
      by false e = record { rest = line; is = with-missing e }

  -- all lines are ended still
  with-ends : begins_behind true f ≡ true → ((t : Bool) → begins_behind t line ≡ true) → begins_behind true (with_line f line) ≡ true
  with-ends d n = by (has_line f line) refl
    where
      by : (t : Bool) → has_line f line ≡ t → begins_behind true (with_line f line) ≡ true
      by true e = ap (begins_behind true) (with-there e) ∙ d
      by false e = ap (begins_behind true) (with-missing e) ∙ behind-both true f line ∙ n (begins_behind true f)

  -- and the line is there
  with-has : begins_behind true f ≡ true → begins_behind false line ≡ true → has_line (with_line f line) line ≡ true
  with-has d n = by (has_line f line) refl
    where
      by : (t : Bool) → has_line f line ≡ t → has_line (with_line f line) line ≡ true
      by true e = ap (λ (g : List ℕ). has_line g line) (with-there e) ∙ e
      by false e =
          ap (λ (g : List ℕ). has_line g line) (with-missing e)
          ∙ has-behind true f line line (ap (λ (t : Bool). has_from t line line) d ∙ has-itself line n)

module _ (entries : List ℕ) where
  line-ends : (t : Bool) (i : ℕ) → begins_behind t (entry_at entries i) ≡ true
  line-ends t i = entry-ends t _ _ _

  filed-longer : (f : List ℕ) (n : ℕ) → Longer f (filed_to f entries n)
  unfolding filed_to
  filed-longer f zero = longer-same f
  filed-longer f (suc n) = longer-on (filed-longer f n) (with-longer (filed_to f entries n) (entry_at entries n))

  filed-ends : (f : List ℕ) (n : ℕ) → begins_behind true f ≡ true → begins_behind true (filed_to f entries n) ≡ true
  unfolding filed_to
  filed-ends f zero d = d
  filed-ends f (suc n) d = with-ends (filed_to f entries n) (entry_at entries n) (filed-ends f n d) (λ t. line-ends t n)

  has-longer : {f g : List ℕ} (line : List ℕ) → Longer f g → has_line f line ≡ true → has_line g line ≡ true
  has-longer {f} {g} line l e = ap (λ (x : List ℕ). has_line x line) l.is ∙ has_more true f l.rest line e

  filed-has : (f : List ℕ) (n i : ℕ) → begins_behind true f ≡ true → i < n → has_line (filed_to f entries n) (entry_at entries i) ≡ true
  unfolding filed_to
  filed-has f zero i d l = absurd (omega arith)
  filed-has f (suc n) i d l = by (ℕ_discrete i n) (λ m. filed-has f n i d m)
    where
      by : Dec (i ≡ n) → (i < n → has_line (filed_to f entries n) (entry_at entries i) ≡ true)
          → has_line (with_line (filed_to f entries n) (entry_at entries n)) (entry_at entries i) ≡ true
      by (yes e) r =
          ap (λ (k : ℕ). has_line (with_line (filed_to f entries n) (entry_at entries n)) (entry_at entries k)) e
          ∙ with-has (filed_to f entries n) (entry_at entries n) (filed-ends f n d) (line-ends false n)
      by (no e) r = has-longer (entry_at entries i) (with-longer (filed_to f entries n) (entry_at entries n)) (r (omega arith))

  filed-same : (f : List ℕ) (n : ℕ) → ((i : ℕ) → i < n → has_line f (entry_at entries i) ≡ true) → filed_to f entries n ≡ f
  unfolding filed_to
  filed-same f zero h = refl
  filed-same f (suc n) h =
      let e = filed-same f n (λ i l. h i (omega arith)) in
      ap (λ (g : List ℕ). with_line g (entry_at entries n)) e ∙ with-there f (entry_at entries n) (h n (omega arith))

  module _ (file : List ℕ) where
    -- THE LAW: every entry's line is in the file after
    pub every-line : (i : ℕ) → i < length entries / 3 → has_line (filed file entries) (entry_at entries i) ≡ true
    every-line i l = filed-has (ended file) (length entries / 3) i (ended-ends file) l

    -- THE LAW: what it had stays in front
    pub file-kept : Longer file (filed file entries)
    file-kept = longer-on (ended-longer file) (filed-longer (ended file) (length entries / 3))

    -- THE LAW: filing the same entries a second time changes nothing: "the next run puts no line twice"
    pub filed-twice : filed (filed file entries) entries ≡ filed file entries
    filed-twice =
        let g = filed file entries in
        let e = ended_same g (filed-ends (ended file) (length entries / 3) (ended-ends file)) in
        ap (λ (f : List ℕ). filed_to f entries (length entries / 3)) e ∙ filed-same g (length entries / 3) every-line

    -- where it is no longer than before, it had every line
    pub none-put : length (filed file entries) ≡ length (ended file) → filed file entries ≡ ended file
    none-put e = by l.rest l.is
      where
        l : Longer (ended file) (filed file entries)
        l = filed-longer (ended file) (length entries / 3)

        by : (rest : List ℕ) → filed file entries ≡ ended file ++ rest → filed file entries ≡ ended file
        by [] q = q ∙ append-nil (ended file)
        by (a ∷ rest) q = absurd (omega (arith, ap length q, length-append (ended file) (a ∷ rest)))
