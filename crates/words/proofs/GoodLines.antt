-- A line that says a record says a good one, and a line's fault is never 0.
use Rattle.std.proofs.Common.{◌≡◌, ℕ, zero, suc, Bool, true, false, eqb, List, length, refl, ap, arith}
use Rattle.sums.specs.Choice.{pick, unless_refused}
use Rattle.dayfile.specs.declared.Record.{Record}
use Rattle.dayfile.specs.Records.{fault_of}
use Rattle.words.specs.declared.Got.{Got}
use Rattle.words.specs.declared.say.Body.{Body}
use Rattle.words.specs.declared.Line.{Line}
use Rattle.words.specs.declared.Line.TheVariants.{Nothing, Says, Raw, Bad}
use Rattle.words.specs.Tokens.{ends_at}
use Rattle.words.specs.Hex.{Hexed}
use Rattle.words.specs.Texts.{fails, Meant, means, faulty, raw_meant, meant_by, meant, turned_by, line_turned}
use Rattle.words.specs.Saying.{judged_line, accounted_at, coded_at, word_then, serial_at, worded_at, line_says}

abbrev Good : Line → Type 0
Good l = ((r : Record) → l ≡ Says r → fault_of r ≡ 0) × (l ≡ Bad 0 → ⊥)

either : (t : Bool) {a b : Line} → Good a → Good b → Good (pick t a b)
unfolding pick
either true g h = g
either false g h = h

clash : {A : Type 0} → ◌≡◌ {A = ℕ} 0 1 → A
clash e = absurd (omega arith)

bad : (n : ℕ) → (n ≡ 0 → ⊥) → Good (Bad n)
bad n h = (λ r e. clash (cc), λ e. h (cc))

judged : (b : Body) → Good (judged_line b)
unfolding judged_line
judged b = by (fault_of b.what) refl
  where
    by : (n : ℕ) → fault_of b.what ≡ n → Good (unless_refused n (pick b.ended (Says b.what) (Bad 30)) Bad)
    by zero e = either b.ended (λ r d. let same : b.what ≡ r = cc in rw (← same) e, λ d. clash (cc)) (bad 30 (λ z. omega arith))
    by (suc n) e = bad (suc n) (λ z. omega arith)

accounted : (s : List ℕ) (a : Got) (code serial : ℕ) → Good (accounted_at s a code serial)
unfolding accounted_at
accounted s a code serial = either _ (judged _) (bad 33 (λ z. omega arith))

worded : (s : List ℕ) (word : Got) (serial : ℕ) → Good (word_then s word serial)
unfolding word_then coded_at
worded s word serial = either _ (bad 4 (λ z. omega arith)) (accounted s _ _ serial)

after-serial : (s : List ℕ) (n : Got) → Good (serial_at s n)
unfolding serial_at
after-serial s n = either _ (worded s _ n.value) (bad 31 (λ z. omega arith))

good-line : (running : ℕ) (s : List ℕ) → Good (line_says running s)
unfolding line_says worded_at
good-line running s =
    either _ (λ r e. clash (cc), λ e. clash (cc))
    (either _ (after-serial s _) (either _ (λ r e. clash (cc), λ e. clash (cc)) (worded s _ running)))

pub line-good : (running : ℕ) (s : List ℕ) (r : Record) → line_says running s ≡ Says r → fault_of r ≡ 0
line-good running s = (good-line running s).0

raw-told : (line : List ℕ) (h : Hexed) → raw_meant line h ≡ faulty 0 → ⊥
unfolding raw_meant pick
raw-told line h = by (eqb (length h.bytes) 0) (ends_at line h.next)
  where
    by : (t u : Bool) → pick t (faulty 32) (pick u (means h.bytes) (faulty 30)) ≡ faulty 0 → ⊥
    by true u e = let z : ◌≡◌ {A = ℕ} 32 0 = cc in omega arith
    by false true e = clash (cc)
    by false false e = let z : ◌≡◌ {A = ℕ} 30 0 = cc in omega arith

meant-told : (running : ℕ) (line : List ℕ) → meant running line ≡ faulty 0 → ⊥
unfolding meant meant_by
meant-told running line = by (line_says running line) (good-line running line).1
  where
    by : (l : Line) → (l ≡ Bad 0 → ⊥) → meant_by line l ≡ faulty 0 → ⊥
    by Nothing h e = clash (cc)
    by (Says r) h e = clash (cc)
    by (Raw from) h e = raw-told line _ e
    by (Bad n) h e = h (let z : n ≡ 0 = cc in ap Bad z)

pub line-told : (running : ℕ) (line : List ℕ) → line_turned running line ≡ fails 0 → ⊥
unfolding turned_by
line-told running line = by (meant running line) (meant-told running line)
  where
    by : (m : Meant) → (m ≡ faulty 0 → ⊥) → turned_by running m ≡ fails 0 → ⊥
    by (means x) h e = clash (cc)
    by (faulty n) h e = h (let z : n ≡ 0 = cc in ap faulty z)
