-- What a line says. Its faults are told in the order in which the line is read, from left to right.
use Rattle.std.specs.Prelude.{ℕ, ◌+◌, ◌*◌, Bool, true, false, ◌&&◌, List, ◌==◌, nat_le}
use Rattle.sums.specs.Choice.{pick, unless_refused}
use Rattle.dayfile.specs.Records.{fault_of}
use Rattle.dayfile.specs.Taking.{mark_of}
use Rattle.words.specs.declared.Got.{Got}
use Rattle.words.specs.declared.Part.{Part}
use Rattle.words.specs.declared.say.Body.{Body}
use Rattle.words.specs.declared.Line.{Line}
use Rattle.words.specs.declared.Line.TheVariants.{Nothing, Says, Raw, Bad}
use Rattle.words.specs.Tokens.{got, none, number_at, word_at, ends_at, number_of_word}
use Rattle.words.specs.Words as w
use Rattle.words.specs.Lines.{opens}

-- "A serial or account is at most 65535."
abbrev pub short : Got → Got
short g = pick (nat_le g.value 65535) g none

unfoldable pub short_at : List ℕ → ℕ → Got
short_at s at = short (number_at s at)

-- "ACCOUNT is always there, but with `tm` and `cp` it may be left out: 0."
abbrev pub or_zero : Bool → ℕ → Got → Got
or_zero may at g = pick (may && g.value == none.value) (got 0 at) g

unfoldable pub account_at : List ℕ → ℕ → ℕ → Got
account_at s at code = or_zero (opens code) at (short_at s at)

-- "[cash N]": an amount with its kind in front of it, or nothing
abbrev pub part : ℕ → ℕ → ℕ → Part
part named amount next = record { named = named; amount = amount; next = next }

abbrev pub kind_then : List ℕ → ℕ → ℕ → Got → Part
kind_then s at word g = pick (g.value == word) (part 1 (number_at s g.next).value (number_at s g.next).next) (part 0 0 at)

unfoldable pub kind_at : List ℕ → ℕ → ℕ → Part
kind_at s at word = kind_then s at word (word_at s at)

-- "The last N stands where the code names pledged or margin."
unfoldable pub only_at : List ℕ → ℕ → Bool → Got
only_at s at true = number_at s at
only_at s at false = got 0 at

-- "Kinds stand in the day file's order only": the record whose account was read, and whether the line ends behind it
unfoldable pub body_at : List ℕ → Got → ℕ → ℕ → Body
body_at s a code serial =
    let c = kind_at s a.next (number_of_word w.cash) in
    let d = kind_at s c.next (number_of_word w.deposits) in
    let g = kind_at s d.next (number_of_word w.guarantees) in
    let k = kind_at s g.next (number_of_word w.securities) in
    let p = only_at s k.next (mark_of code == 16) in
    let m = only_at s p.next (mark_of code == 32) in
    record {
      what = record {
        serial = serial;
        code = code;
        named = c.named + 2 * d.named + 4 * g.named + 8 * k.named + mark_of code;
        account = a.value;
        kinds = record { cash = c.amount; deposits = d.amount; guarantees = g.amount; securities = k.amount };
        pledged = p.value;
        margin = m.value;
      };
      ended = ends_at s m.next;
    }

-- "A word line whose record is not good by document 01's 4, 5, 6 is told and refused"; 30: something more in the line
unfoldable pub judged_line : Body → Line
judged_line b = unless_refused (fault_of b.what) (pick b.ended (Says b.what) (Bad 30)) Bad

-- 33: no account
unfoldable pub accounted_at : List ℕ → Got → ℕ → ℕ → Line
accounted_at s a code serial = pick (nat_le a.value 65535) (judged_line (body_at s a code serial)) (Bad 33)

-- 4: no such word
unfoldable pub coded_at : List ℕ → ℕ → ℕ → ℕ → Line
coded_at s at code serial = pick (code == 0) (Bad 4) (accounted_at s (account_at s at code) code serial)

unfoldable pub word_then : List ℕ → Got → ℕ → Line
word_then s word serial = coded_at s word.next (w.code_of word.value) serial

-- 31: no serial after `serial`
unfoldable pub serial_at : List ℕ → Got → Line
serial_at s n = pick (nat_le n.value 65535) (word_then s (word_at s n.next) n.value) (Bad 31)

unfoldable pub worded_at : List ℕ → Got → ℕ → Line
worded_at s word running =
    pick (word.value == number_of_word w.serial)
    (serial_at s (number_at s word.next))
    (pick (word.value == number_of_word w.raw) (Raw word.next) (word_then s word running))

-- what a line says, where the running serial is "the one a line without `serial` gets"; "Empty lines say nothing."
unfoldable pub line_says : ℕ → List ℕ → Line
line_says running s = pick (ends_at s 0) Nothing (worded_at s (word_at s 0) running)
