-- What a text of losses says, a line `NUMBER AMOUNT` for each account that has one (docs/API.md), and the losses of the rows held by it.
use Rattle.std.specs.Prelude.{Bool, true, false, not, ◌&&◌, List, [], ◌∷◌, ◌++◌, ◌≡◌, ℕ, suc, eqb, ltb, leb, length, take, get_or, Result, Ok, Err}
use Rattle.sums.specs.Choice.{pick}
use Rattle.sums.specs.Sum.{all}
use Rattle.sums.specs.Listed.{list_to}
use Rattle.rows.specs.declared.Book.{Book}
use Rattle.rows.specs.Rows.{place_among, number_at as Rows·number_at}
use Rattle.book.specs.Sound.{sound_b}
use Rattle.words.specs.declared.Got.{Got}
use Rattle.words.specs.Tokens.{none, number_at, ends_at}
use Rattle.words.specs.Texts.{lines_of}
use Rattle.text.specs.Numbers.{followed}
use Rattle.report.specs.Reports.{accounts, refused_word, word_line}
use Rattle.report.specs.Holdings.{bytes_in}
use Rattle.closeouts.specs.declared.loss_lines.Loss.{Loss}
use Rattle.closeouts.specs.declared.loss_lines.Loss.TheVariants.{Nothing, Of, Bad}
use Rattle.closeouts.specs.declared.loss_lines.Wrong.{Wrong}
use Rattle.closeouts.specs.declared.losses.Losses.{Losses}
use Rattle.closeouts.specs.Losses.{Came}
use Rattle.closeouts.specs.Texts.{text_of}

-- the faults of a line
abbrev pub too_many : List ℕ
too_many = bytes_in " more than 256 lines that say something\n"

abbrev pub fault_words : ℕ → List ℕ
fault_words fault =
    get_or (too_many ∷ bytes_in " no number\n" ∷ bytes_in " a number above 65535\n" ∷ bytes_in " no amount\n" ∷ bytes_in " something more in the line\n"
    ∷ bytes_in " the same account twice\n" ∷ []) fault too_many

-- nothing that is a number stands there
abbrev pub is_none : Got → Bool
is_none g = eqb g.value none.value

abbrev pub amount_said : List ℕ → ℕ → Got → Loss
amount_said line account g = pick (is_none g) (Bad 3) (pick (ends_at line g.next) (Of account g.value) (Bad 4))

abbrev pub account_said : List ℕ → Got → Loss
account_said line g = pick (is_none g) (Bad 1) (pick (ltb 65535 g.value) (Bad 2) (amount_said line g.value (number_at line g.next)))

-- what one line says: nothing, an account's loss, or a fault
unfoldable pub loss_said : List ℕ → Loss
loss_said line = pick (ends_at line 0) Nothing (account_said line (number_at line 0))

-- the accounts named so far and their losses, or a fault
pub data Named : Type 0 where
  names : List ℕ → List ℕ → Named
  fails : ℕ → Named

-- an account is named once, and at most 256 are
unfoldable pub named_by : List ℕ → List ℕ → Loss → Named
named_by numbers amounts Nothing = names numbers amounts
named_by numbers amounts (Of account amount) =
    pick (ltb (place_among numbers (length numbers) account) (length numbers)) (fails 5)
    (pick (leb 256 (length numbers)) (fails 6) (names (numbers ++ (account ∷ [])) (amounts ++ (amount ∷ []))))
named_by numbers amounts (Bad n) = fails n

-- what a whole text says: accounts and their losses in its order, or the first line that says nothing, counted from 1, and its fault
pub data Told : Type 0 where
  losses : List ℕ → List ℕ → Told
  wrong : ℕ → ℕ → Told

unfoldable pub told_by : ℕ → Named → (List ℕ → List ℕ → Told) → Told
told_by line (names numbers amounts) go = go numbers amounts
told_by line (fails n) go = wrong line n

unfoldable pub told_from : ℕ → List ℕ → List ℕ → List (List ℕ) → Told
told_from line numbers amounts [] = losses numbers amounts
told_from line numbers amounts (x ∷ xs) = told_by line (named_by numbers amounts (loss_said x)) (λ ns ms. told_from (suc line) ns ms xs)

abbrev pub told_of : List ℕ → Told
told_of text = told_from 1 [] [] (lines_of text)

-- the same as a call's answer
abbrev pub answered : Result Losses Wrong → Told
answered (Ok l) = losses (take l.count l.numbers) (take l.count l.list)
answered (Err w) = wrong w.line w.fault

-- the loss of the account with a number: 0 where it isn't named
unfoldable pub loss_for : List ℕ → List ℕ → ℕ → ℕ
loss_for numbers amounts n = get_or amounts (place_among numbers (length numbers) n) 0

-- "Losses in a close-out are listed by row held."
unfoldable pub row_losses : Book → List ℕ → List ℕ → List ℕ
row_losses b numbers amounts = list_to (λ i. loss_for numbers amounts (Rows·number_at b i)) (accounts b.count)

-- each account named has a row held
unfoldable pub all_held : Book → List ℕ → Bool
all_held b numbers = all (length numbers) (λ i. ltb (place_among b.numbers (accounts b.count) (get_or numbers i 0)) (accounts b.count))

-- the text of the close-out by these losses; `refused 7` where a number is held by no row: "the account is not live, or its number was never given", after 1
unfoldable pub text_of_lines : Book → List ℕ → List ℕ → List ℕ
text_of_lines b numbers amounts = pick (sound_b b && not (all_held b numbers)) (word_line refused_word 7) (text_of b (row_losses b numbers amounts))

-- what is told of a line that says nothing: `closeouts: line 3: no amount`
unfoldable pub fault_text : ℕ → ℕ → List ℕ
fault_text line fault = bytes_in "closeouts: line " ++ (followed line 58 ++ fault_words fault)

-- every line of a text says something
unfoldable pub says_losses : Told → Bool
says_losses (losses numbers amounts) = true
says_losses (wrong line n) = false

-- these are the losses that a text says
abbrev pub SaidBy : Losses → Told → Type 0
SaidBy l told = losses (take l.count l.numbers) (take l.count l.list) ≡ told

-- No contract can say which bytes are read: there is a text of which these are the losses.
pub record LinesCame (l : Losses) : Type 0 where
  pub text : List ℕ
  pub is : SaidBy l (told_of text)

-- the losses of either form
abbrev pub CameAs : Bool → Losses → Type 0
CameAs true l = LinesCame l
CameAs false l = Came l
