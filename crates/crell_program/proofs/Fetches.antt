-- What may come of one of several calls may come of them all.
use Rattle.std.proofs.Common.{◌≡◌, ◌≤◌, ◌<◌, ◌+◌, ◌∙◌, ℕ, suc, List, [], ◌∷◌, ◌++◌, length, map, take, drop, get_or, refl, sym, ap, subst, inl, inr, arith}
use Rattle.std.proofs.Math.Nat.{le_refl}
use Rattle.std.proofs.Math.Seq.{drop-cons}
use Rattle.std.proofs.lemmas.List.{map-append, take_more, take-append-drop}
use Rattle.crell_io.specs.Count.{HasRisen, HasRisenAbove}
use Rattle.crell_io.specs.Shelf.{Told, StaysWell}
use Rattle.crell_program.specs.declared.crell_answers.answer.Answer.{Answer}
use Rattle.crell_program.specs.declared.fetch.Stop.{Stop}
use Rattle.crell_program.specs.declared.fetch.Stop.TheVariants as stop
use Rattle.crell_program.specs.Fetching.{IsHeld, AreHeld, IfDue}
use Rattle.crell_program.specs.declared.command.Wanted.{Wanted}
use Rattle.crell_program.specs.Command.{File, most_bytes, shown_file}
use Rattle.crell_program.specs.Due.{ShelfSeen, shelf_seen, Got, Held, Missing, Long, Broken, MayCome, DueAfter, DueOfFile, DueOfFiles}

-- a part of what is done to a shelf
pub record IsWithin (part whole : ShelfSeen) : Type 0 where
  pub told : whole.told ≡ part.told
  pub faults : whole.faults ≤ part.faults
  pub faults_after : part.faults_after ≤ whole.faults_after
  pub taken : whole.taken ≤ part.taken
  pub taken_after : part.taken_after ≤ whole.taken_after

pub within : {S : Type 0} (told : S → List ℕ → Told) (faults taken : S → ℕ) (a b c d : S) → told b ≡ told a
    → faults a ≤ faults b → faults c ≤ faults d → taken a ≤ taken b → taken c ≤ taken d
    → IsWithin (shelf_seen told faults taken b c) (shelf_seen told faults taken a d)
within told faults taken a b c d e p q r s = record { told = sym e; faults = p; faults_after = q; taken = r; taken_after = s }

risen_within : (a b c d : ℕ) → a ≤ b → c ≤ d → HasRisen b c → HasRisen a d
risen_within a b c d p q (inl h) = inl (omega arith)
risen_within a b c d p q (inr h) = inr (omega arith)

above_within : (least a b c d : ℕ) → a ≤ b → c ≤ d → HasRisenAbove least b c → HasRisenAbove least a d
above_within least a b c d p q (inl h) = inl (omega arith)
above_within least a b c d p q (inr h) = inr (omega arith)

pub come_within : (part whole : ShelfSeen) → IsWithin part whole → (file : File) (got : Got) → MayCome part file got → MayCome whole file got
come_within part whole w file (Held bytes) m = rw w.told m
come_within part whole w file Missing m = rw w.told m
come_within part whole w file Long m = (above_within (most_bytes file) _ _ _ _ w.taken w.taken_after m.0, rw w.told m.1)
come_within part whole w file Broken m = risen_within _ _ _ _ w.faults w.faults_after m

pub held_within : (part whole : ShelfSeen) → IsWithin part whole → (files : List File) (texts : List (List ℕ)) → AreHeld part files texts → AreHeld whole files texts
held_within part whole w [] [] h = tt
held_within part whole w (file ∷ files) (text ∷ texts) h = (come_within part whole w file (Held text) h.0, held_within part whole w files texts h.1)
held_within part whole w [] (text ∷ texts) h = absurd h
held_within part whole w (file ∷ files) [] h = absurd h

-- one more file is held
pub held_more : (shelf : ShelfSeen) (files : List File) (texts : List (List ℕ)) (file : File) (text : List ℕ) → AreHeld shelf files texts → IsHeld shelf file text
    → AreHeld shelf (files ++ file ∷ []) (texts ++ text ∷ [])
held_more shelf [] [] file text h last = (last, tt)
held_more shelf (f ∷ files) (t ∷ texts) file text h last = (h.0, held_more shelf files texts file text h.1 last)
held_more shelf [] (t ∷ texts) file text h last = absurd h
held_more shelf (f ∷ files) [] file text h last = absurd h

after_stop : (got : Got) (file : File) (answer : Answer) (next : List ℕ → Type 0) → DueAfter got file answer (λ text. ⊥) → DueAfter got file answer next
after_stop (Held bytes) file answer next d = absurd d
after_stop Missing file answer next d = d
after_stop Long file answer next d = d
after_stop Broken file answer next d = d

-- a file that isn't held decides, whatever would follow
pub due_within : (part whole : ShelfSeen) → IsWithin part whole → (file : File) (answer : Answer) (next : List ℕ → Type 0)
    → DueOfFile part file answer (λ text. ⊥) → DueOfFile whole file answer next
due_within part whole w file answer next (got, m, d) = (got, come_within part whole w file got m, after_stop got file answer next d)

-- so it does behind files that are held
pub due_behind : (shelf : ShelfSeen) (files : List File) (texts : List (List ℕ)) (file : File) (rest : List File) (answer : Answer) (next : List (List ℕ) → Type 0)
    → AreHeld shelf files texts → DueOfFile shelf file answer (λ text. ⊥) → DueOfFiles shelf (files ++ file ∷ rest) answer next
due_behind shelf [] [] file rest answer next h (got, m, d) = (got, m, after_stop got file answer _ d)
due_behind shelf (f ∷ files) (t ∷ texts) file rest answer next h d = (Held t, h.0, due_behind shelf files texts file rest answer (λ more. next (t ∷ more)) h.1 d)
due_behind shelf [] (t ∷ texts) file rest answer next h d = absurd h
due_behind shelf (f ∷ files) [] file rest answer next h d = absurd h

-- where all are held, what follows is due
pub due_of_held : (shelf : ShelfSeen) (files : List File) (texts : List (List ℕ)) (answer : Answer) (next : List (List ℕ) → Type 0)
    → AreHeld shelf files texts → next texts → DueOfFiles shelf files answer next
due_of_held shelf [] [] answer next h p = p
due_of_held shelf (file ∷ files) (text ∷ texts) answer next h p = (Held text, h.0, due_of_held shelf files texts answer (λ more. next (text ∷ more)) h.1 p)
due_of_held shelf [] (text ∷ texts) answer next h p = absurd h
due_of_held shelf (file ∷ files) [] answer next h p = absurd h

after_then : (got : Got) (file : File) (answer : Answer) (P Q : List ℕ → Type 0) → ((text : List ℕ) → P text → Q text) → DueAfter got file answer P → DueAfter got file answer Q
after_then (Held bytes) file answer P Q f d = f bytes d
after_then Missing file answer P Q f d = d
after_then Long file answer P Q f d = d
after_then Broken file answer P Q f d = d

-- where one of the files isn't held, what follows them doesn't matter
pub files_stop : (shelf : ShelfSeen) (files : List File) (answer : Answer) (next : List (List ℕ) → Type 0)
    → DueOfFiles shelf files answer (λ texts. ⊥) → DueOfFiles shelf files answer next
files_stop shelf [] answer next d = absurd d
files_stop shelf (file ∷ files) answer next (got, m, d) =
    (got, m, after_then got file answer _ _ (λ text e. files_stop shelf files answer (λ more. next (text ∷ more)) e) d)

pub if_due : (end : Stop) (P Q : Answer → Type 0) → ((answer : Answer) → P answer → Q answer) → IfDue end P → IfDue end Q
if_due (stop.Due answer) P Q f d = f answer d
if_due stop.Memory P Q f d = tt

-- a shelf that fails nowhere in one call and in the next
pub well_after : {S : Type 0} (fails_nowhere : S → Type 0) (faults : S → ℕ) (a b c : S)
    → StaysWell fails_nowhere faults a b → StaysWell fails_nowhere faults b c → StaysWell fails_nowhere faults a c
well_after fails_nowhere faults a b c first second = λ h. (let x = first h in let y = second x.0 in (y.0, y.1 ∙ x.1))

-- files that are fetched one after another: of the shelf before the first, between two, and now
module _ {S : Type 0} (told : S → List ℕ → Told) (faults taken : S → ℕ) (old cur new : S) (same : told cur ≡ told old)
    (f : faults old ≤ faults cur) (g : faults cur ≤ faults new) (t : taken old ≤ taken cur) (u : taken cur ≤ taken new)
    (files : List Wanted) (i : ℕ) (d : Wanted) (texts : List (List ℕ)) (inside : i < length files)
    (so_far : AreHeld (shelf_seen told faults taken old cur) (map shown_file (take i files)) texts) where
  abbrev whole : ShelfSeen
  whole = shelf_seen told faults taken old new

  abbrev here : File
  here = shown_file (get_or files i d)

  before : AreHeld whole (map shown_file (take i files)) texts
  before = held_within (shelf_seen told faults taken old cur) whole
      (within told faults taken old old cur new refl (le_refl (faults old)) g (le_refl (taken old)) u) (map shown_file (take i files)) texts so_far

  last : IsWithin (shelf_seen told faults taken cur new) whole
  last = within told faults taken old cur new new same f (le_refl (faults new)) t (le_refl (taken new))

  pub fetched_more : (text : List ℕ) → IsHeld (shelf_seen told faults taken cur new) here text
      → AreHeld whole (map shown_file (take (i + 1) files)) (texts ++ text ∷ [])
  fetched_more text h =
      let more : map shown_file (take (i + 1) files) ≡ map shown_file (take i files) ++ here ∷ [] =
      ap (λ (l : List Wanted). map shown_file l) (take_more files i d inside) ∙ map-append shown_file (take i files) (get_or files i d ∷ []) in
      subst (λ (l : List File). AreHeld whole l (texts ++ text ∷ [])) (sym more)
      (held_more whole (map shown_file (take i files)) texts here text before (come_within (shelf_seen told faults taken cur new) whole last here (Held text) h))

  pub stopped_here : (answer : Answer) → DueOfFile (shelf_seen told faults taken cur new) here answer (λ text. ⊥)
      → DueOfFiles whole (map shown_file files) answer (λ more. ⊥)
  stopped_here answer due =
      let split : take i files ++ get_or files i d ∷ drop (suc i) files ≡ files =
      ap (λ (l : List Wanted). take i files ++ l) (sym (drop-cons files i d inside)) ∙ take-append-drop i files in
      let shown : map shown_file (take i files) ++ here ∷ map shown_file (drop (suc i) files) ≡ map shown_file files =
      sym (map-append shown_file (take i files) (get_or files i d ∷ drop (suc i) files)) ∙ ap (λ (l : List Wanted). map shown_file l) split in
      subst (λ (l : List File). DueOfFiles whole l answer (λ more. ⊥)) shown
      (due_behind whole (map shown_file (take i files)) texts here (map shown_file (drop (suc i) files)) answer (λ more. ⊥) before
      (due_within (shelf_seen told faults taken cur new) whole last here answer (λ text. ⊥) due))
