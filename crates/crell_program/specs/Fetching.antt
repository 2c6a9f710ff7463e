-- Words of private functions. What fetching gives: the bytes of files, or the answer that is due where one of them isn't held.
use Rattle.std.specs.Prelude.{ℕ, List, [], ◌∷◌}
use Rattle.crell_program.specs.declared.crell_answers.answer.Answer.{Answer}
use Rattle.crell_program.specs.declared.fetch.Stop.{Stop}
use Rattle.crell_program.specs.declared.fetch.Stop.TheVariants as stop
use Rattle.crell_program.specs.Command.{File}
use Rattle.crell_program.specs.Due.{ShelfSeen, Held, MayCome}

-- these bytes may come of asking for the file
abbrev pub IsHeld : ShelfSeen → File → List ℕ → Type 0
IsHeld shelf file bytes = MayCome shelf file (Held bytes)

-- these are bytes that may come of asking for the files, one text for each
abbrev pub AreHeld : ShelfSeen → List File → List (List ℕ) → Type 0
AreHeld shelf [] [] = Unit {0}
AreHeld shelf (file ∷ files) (text ∷ texts) = IsHeld shelf file text × AreHeld shelf files texts
AreHeld shelf [] (text ∷ texts) = ⊥
AreHeld shelf (file ∷ files) [] = ⊥

-- if an answer is due, it is such
abbrev pub IfDue : Stop → (Answer → Type 0) → Type 0
IfDue (stop.Due answer) P = P answer
IfDue stop.Memory P = Unit {0}
