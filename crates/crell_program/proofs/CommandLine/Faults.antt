-- Words in which the library finds a fault, and words in which it finds none.
use Rattle.std.proofs.Common.{◌≡◌, ◌≢◌, ◌∙◌, ap, ℕ, List, [], ◌∷◌, None, Option, refl, subst, true, inl, inr}
use Rattle.clap.specs.Kinds.{HasKind, IsAmong, Kinds}
use Rattle.clap.specs.Simple.{App, HasMatchesOf, is_simple, subcommand_of, subcommand_rows_of}
use Rattle.clap.specs.Faults.{fault_of, is_simple_and_free}
use Rattle.clap.specs.Values.{kind_of}
use Rattle.clap.specs.declared.error.Error.{Error}
use Rattle.clap.specs.declared.error.kind.ErrorKind.{ErrorKind}
use Rattle.clap.specs.declared.error.kind.ErrorKind.TheVariants as kind
use Rattle.clap.specs.declared.parser.matches.ArgMatches.{ArgMatches}
use Rattle.crell_program.specs.declared.command_line.reading.WordsEnd.{WordsEnd}
use Rattle.crell_program.specs.declared.command_line.reading.WordsEnd.TheVariants.{Refused, Memory}
use Rattle.crell_program.specs.CommandLine.Line.{command_line}
use Rattle.crell_program.specs.CommandLine.Words.{Command, IfRefused, command_found, command_of, unless_faulty}

pub line_is_free : is_simple_and_free command_line ≡ true
unfolding command_line
line_is_free = refl

pub line_is_simple : is_simple command_line ≡ true
unfolding command_line
line_is_simple = refl

some_of : (found : Option Command) (kinds : Kinds) → kinds ≡ [] → found ≡ unless_faulty kinds found
some_of found [] e = refl
some_of found (k ∷ kinds) e = absurd (cc)

none_of : (found : Option Command) (k : ErrorKind) (kinds : Kinds) → IsAmong k kinds → None ≡ unless_faulty kinds found
none_of found k [] among = absurd among
none_of found k (x ∷ kinds) among = refl

faultless : (words : List (List ℕ)) → fault_of command_line words ≡ [] → command_found (subcommand_of command_line words) ≡ command_of words
unfolding command_of
faultless words none = some_of (command_found (subcommand_of command_line words)) (fault_of command_line words) none

faulty : (words : List (List ℕ)) (k : ErrorKind) → IsAmong k (fault_of command_line words) → None ≡ command_of words
unfolding command_of
faulty words k among = none_of (command_found (subcommand_of command_line words)) k (fault_of command_line words) among

-- what a parse of the line finds is the command
pub found : (line : App) (words : List (List ℕ)) (m : ArgMatches) → line ≡ command_line → (is_simple_and_free line ≡ true → fault_of line words ≡ [])
    → HasMatchesOf line words m → command_found (subcommand_rows_of m) ≡ command_of words
found line words m e none has =
    let faults : fault_of command_line words ≡ [] = subst (λ (a : App). fault_of a words ≡ []) e (none (ap is_simple_and_free e ∙ line_is_free)) in
    let rows : subcommand_rows_of m ≡ subcommand_of command_line words = (has (ap is_simple e ∙ line_is_simple)).1 ∙ ap (λ (a : App). subcommand_of a words) e in
    ap command_found rows ∙ faultless words faults

-- and one that fails otherwise than for want of memory finds none
pub refused : (line : App) (words : List (List ℕ)) (error : Error) → line ≡ command_line → (is_simple_and_free line ≡ true → HasKind (fault_of line words) error)
    → kind_of error ≢ kind.OutOfMemory → None ≡ command_of words
refused line words error e fails other =
    let has : HasKind (fault_of command_line words) error = subst (λ (a : App). HasKind (fault_of a words) error) e (fails (ap is_simple_and_free e ∙ line_is_free)) in
    elim has [
      | inl memory ↦ absurd (other memory)
      | inr among ↦ faulty words (kind_of error) among
    ]

pub refused_so : {P Q : Type 0} (end : WordsEnd) → (P → Q) → IfRefused end P → IfRefused end Q
refused_so (Refused text) so p = so p
refused_so Memory so p = p
