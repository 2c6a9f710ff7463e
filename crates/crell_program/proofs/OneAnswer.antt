-- The answer that is due is one.
use Rattle.std.proofs.Common.{◌≡◌, ◌≢◌, ◌≤◌, ◌<◌, ◌++◌, ℕ, List, [], ◌∷◌, length, Option, Some, Ok, Err, refl, sym, ◌∙◌, ap, subst, inl, inr, arith}
use Rattle.std.specs.List.{AllByRecursion}
use Rattle.std.proofs.lemmas.List.{append-nil, append_cancel_left}
use Rattle.ir_core.specs.declared.modules.Module.{Module}
use Rattle.ir_core.specs.Limits.{text_limit}
use Rattle.ir_reader.specs.declared.fault.ModuleFault.{ModuleFault}
use Rattle.json_forms.specs.declared.failure.Fault.{Fault}
use Rattle.erhl_assert.specs.declared.hints.Hints.{Hints}
use Rattle.erhl_assert.specs.Steps.{Rules}
use Rattle.crell_program.specs.PairAnswer.{pair_answer}
use Rattle.crell_io.specs.Count.{HasRisen}
use Rattle.crell_io.specs.Shelf.{Told, IfTold}
use Rattle.crell_io.specs.Shelf.Told.{Untold, NoSuch, Bytes}
use Rattle.crell_io.specs.Sink.{appended}
use Rattle.crell_program.specs.declared.command_line.request.Listing.{Listing}
use Rattle.crell_program.specs.declared.command_line.request.Listing.TheVariants.{Definitions, ModuleItself, NamedModule}
use Rattle.crell_program.specs.declared.crell_answers.answer.Answer.{Answer}
use Rattle.crell_program.specs.Command.{File, most_bytes, files_of}
use Rattle.crell_program.specs.CommandLine.Words.{CheckFiles, Command, Check, Print}
use Rattle.crell_program.specs.CrellAnswers.Answer.{at_fault, module_fault, printed}
use Rattle.crell_program.specs.DefinitionText.Lines.{LinesAreOne}
use Rattle.crell_program.specs.Due.{ShelfSeen, Held, Missing, Long, Broken, DueOfCheck, DueOfFile, DueOfFiles, DueOfHints, DueOfListing, DueOfModule, DueOfTexts, IsDue, IsListing, Lists, checked}
use Rattle.ir_reader.specs.Laws.{FaultsExcludeModules, ModuleFaultsAreOne}
use Rattle.crell_program.specs.OneAnswer.{DueIsOne, StatusIsOne, UsageIsSaid, UsagesDifferOnErr}
use Rattle.crell_program.proofs.Completeness.{AreWithin, delivered_well, faults_same, hints_same, not_both}

-- ---- what comes of asking for a file that the shelf tells of

bytes_are_one : (t : Told) → t ≢ Untold → (x y : List ℕ) → IfTold t (λ held. x ≡ held) → IfTold t (λ held. y ≡ held) → x ≡ y
bytes_are_one Untold told x y p q = absurd (told refl)
bytes_are_one NoSuch told x y p q = absurd p
bytes_are_one (Bytes held) told x y p q = p ∙ sym q

held_isnt_missing : (t : Told) (x : List ℕ) → IfTold t (λ held. x ≡ held) → t ≡ NoSuch → ⊥
held_isnt_missing t x p e = subst (λ (u : Told). IfTold u (λ held. x ≡ held)) e p

held_isnt_long : (t : Told) (most : ℕ) (x : List ℕ) → t ≢ Untold → length x ≤ most → IfTold t (λ held. x ≡ held) → IfTold t (λ held. most < length held) → ⊥
held_isnt_long Untold most x told within p q = told refl
held_isnt_long NoSuch most x told within p q = p
held_isnt_long (Bytes held) most x told within p q = let e = ap (λ (l : List ℕ). length l) p in absurd (omega (arith, within, q, e))

missing_isnt_long : (t : Told) (most : ℕ) → t ≡ NoSuch → IfTold t (λ held. most < length held) → ⊥
missing_isnt_long t most e q = subst (λ (u : Told). IfTold u (λ held. most < length held)) e q

module _ (shelf : ShelfSeen) (fine : HasRisen shelf.faults shelf.faults_after → ⊥) (a b : Answer) where
  of_file : (file : File) → shelf.told file.name ≢ Untold → (N M : List ℕ → Type 0) → ((bytes : List ℕ) → length bytes ≤ most_bytes file → N bytes → M bytes → a ≡ b)
      → DueOfFile shelf file a N → DueOfFile shelf file b M → a ≡ b
  of_file file told N M leads (Held x, m, d) (Held y, n, e) = leads x m.0 d (subst M (sym (bytes_are_one (shelf.told file.name) told x y m.1 n.1)) e)
  of_file file told N M leads (Held x, m, d) (Missing, n, e) = absurd (held_isnt_missing (shelf.told file.name) x m.1 n)
  of_file file told N M leads (Held x, m, d) (Long, n, e) = absurd (held_isnt_long (shelf.told file.name) (most_bytes file) x told m.0 m.1 n.1)
  of_file file told N M leads (Missing, m, d) (Held y, n, e) = absurd (held_isnt_missing (shelf.told file.name) y n.1 m)
  of_file file told N M leads (Missing, m, d) (Missing, n, e) = d ∙ sym e
  of_file file told N M leads (Missing, m, d) (Long, n, e) = absurd (missing_isnt_long (shelf.told file.name) (most_bytes file) m n.1)
  of_file file told N M leads (Long, m, d) (Held y, n, e) = absurd (held_isnt_long (shelf.told file.name) (most_bytes file) y told n.0 n.1 m.1)
  of_file file told N M leads (Long, m, d) (Missing, n, e) = absurd (missing_isnt_long (shelf.told file.name) (most_bytes file) n m.1)
  of_file file told N M leads (Long, m, d) (Long, n, e) = d ∙ sym e
  of_file file told N M leads (Broken, m, d) q = absurd (fine m)
  of_file file told N M leads p (Broken, n, e) = absurd (fine n)

  of_files : (files : List File) (N M : List (List ℕ) → Type 0) → AllByRecursion (λ (file : File). shelf.told file.name ≢ Untold) files
      → ((texts : List (List ℕ)) → AreWithin files texts → N texts → M texts → a ≡ b) → DueOfFiles shelf files a N → DueOfFiles shelf files b M → a ≡ b
  of_files [] N M told leads p q = leads [] tt p q
  of_files (file ∷ files) N M told leads p q =
      of_file file told.0 (λ bytes. DueOfFiles shelf files a (λ texts. N (bytes ∷ texts))) (λ bytes. DueOfFiles shelf files b (λ texts. M (bytes ∷ texts)))
      (λ bytes within d e. of_files files (λ texts. N (bytes ∷ texts)) (λ texts. M (bytes ∷ texts)) told.1 (λ texts all n m. leads (bytes ∷ texts) (within, all) n m) d e)
      p q

-- ---- what is due to texts

one_listing : LinesAreOne → (listing : Listing) (m : Module) (t u : List ℕ) → Lists listing m t → Lists listing m u → t ≡ u
one_listing lines Definitions m t u p q = lines m.functions t u p q
one_listing lines ModuleItself m t u p q = p ∙ sym q
one_listing lines NamedModule m t u p q = p ∙ sym q

module _ (faults_are_one : ModuleFaultsAreOne) (excludes : FaultsExcludeModules) (lines : LinesAreOne) (rules : Rules) (a b : Answer) where
  of_module : (name text : List ℕ) (N M : Module → Type 0) → length text ≤ text_limit → ((m : Module) → N m → M m → a ≡ b)
      → DueOfModule name text a N → DueOfModule name text b M → a ≡ b
  of_module name text N M short leads (inl (f, is, e)) (inl (g, also, d)) =
      e ∙ (ap (λ (x : ModuleFault). module_fault x text name) (faults_are_one text f g short is also) ∙ sym d)
  of_module name text N M short leads (inl (f, is, e)) (inr (m, only, n)) = absurd (excludes text f m short is only.0)
  of_module name text N M short leads (inr (m, only, n)) (inl (f, is, e)) = absurd (excludes text f m short is only.0)
  of_module name text N M short leads (inr (m, only, n)) (inr (k, also, r)) = leads m n (subst M (only.1 k also.0.0) r)

  of_hints : (name text : List ℕ) (N M : Hints → Type 0) → ((h : Hints) → N h → M h → a ≡ b) → DueOfHints name text a N → DueOfHints name text b M → a ≡ b
  of_hints name text N M leads (inl (f, is, e)) (inl (g, also, d)) = e ∙ (ap (λ (x : Fault). at_fault x name) (faults_same f g (also.1 (Err f) is.0)) ∙ sym d)
  of_hints name text N M leads (inl (f, is, e)) (inr (h, also, n)) = absurd (not_both h f (sym (also.1 (Err f) is.0)))
  of_hints name text N M leads (inr (h, is, n)) (inl (f, also, d)) = absurd (not_both h f (also.1 (Ok h) is.0))
  of_hints name text N M leads (inr (h, is, n)) (inr (k, also, r)) = leads h n (subst M (sym (hints_same h k (also.1 (Ok h) is.0))) r)

  module _ (names : CheckFiles) (target hints : List ℕ) where
    abbrev ByHints : Answer → Module → Module → Hints → Type 0
    ByHints answer s t h = answer ≡ checked (pair_answer rules s t h) names.source

    abbrev ByTarget : Answer → Module → Module → Type 0
    ByTarget answer s t = DueOfHints names.hints hints answer (ByHints answer s t)

    abbrev BySource : Answer → Module → Type 0
    BySource answer s = DueOfModule names.target target answer (ByTarget answer s)

    of_check : (source : List ℕ) → length source ≤ text_limit → length target ≤ text_limit
        → DueOfCheck rules names a source target hints → DueOfCheck rules names b source target hints → a ≡ b
    of_check source short also =
        of_module names.source source (BySource a) (BySource b) short
        (λ s. of_module names.target target (ByTarget a s) (ByTarget b s) also
        (λ t. of_hints names.hints hints (ByHints a s t) (ByHints b s t) (λ h e d. e ∙ sym d)))

  of_listing : (listing : Listing) (file text : List ℕ) → length text ≤ text_limit → DueOfListing listing file a text → DueOfListing listing file b text → a ≡ b
  of_listing listing file text short =
      of_module file text (λ m. IsListing listing m a) (λ m. IsListing listing m b) short
      (λ m (t, p, e) (u, q, d). e ∙ (ap printed (one_listing lines listing m t u p q) ∙ sym d))

  of_texts : (command : Command) (texts : List (List ℕ)) → AreWithin (files_of command) texts → DueOfTexts rules command a texts → DueOfTexts rules command b texts → a ≡ b
  of_texts (Check names) (source ∷ target ∷ hints ∷ []) within p q = of_check names target hints source within.0 within.1.0 p q
  of_texts (Check names) [] within p q = absurd p
  of_texts (Check names) (source ∷ []) within p q = absurd p
  of_texts (Check names) (source ∷ target ∷ []) within p q = absurd p
  of_texts (Check names) (source ∷ target ∷ hints ∷ text ∷ more) within p q = absurd p
  of_texts (Print listing file) (text ∷ []) within p q = of_listing listing file text within.0 p q
  of_texts (Print listing file) [] within p q = absurd p
  of_texts (Print listing file) (text ∷ other ∷ more) within p q = absurd p

pub due_is_one : ModuleFaultsAreOne → FaultsExcludeModules → LinesAreOne → DueIsOne
due_is_one faults_are_one excludes lines rules shelf command a b fine told =
    of_files shelf fine a b (files_of command) (DueOfTexts rules command a) (DueOfTexts rules command b) told
    (of_texts faults_are_one excludes lines rules a b command)

pub status_is_one : DueIsOne → StatusIsOne
status_is_one one run command s t is told fine (inl (a, due, delivered)) (inl (b, also, other)) =
    let of : (answer : Answer) → IsDue run.rules run.shelf run.command answer → IsDue run.rules run.shelf (Some command) answer =
    λ answer. subst (λ (c : Option Command). IsDue run.rules run.shelf c answer) is in
    let same : a ≡ b = one run.rules run.shelf command a b fine.0 told (of a due) (of b also) in
    inl (delivered_well a run.out run.err s (fine.1, fine.2) delivered
    ∙ (ap (λ (x : Answer). x.status) same ∙ sym (delivered_well b run.out run.err t (fine.1, fine.2) other)))
status_is_one one run command s t is told fine (inr p) q = inr (inl p.0)
status_is_one one run command s t is told fine p (inr q) = inr (inr q.0)

pub usages_differ_on_err : UsagesDifferOnErr
usages_differ_on_err rules shelf a b (t, some, e) (u, more, d) =
    (ap (λ (x : Answer). x.status) e ∙ sym (ap (λ (x : Answer). x.status) d), ap (λ (x : Answer). x.out) e ∙ sym (ap (λ (x : Answer). x.out) d))

same_some : (a b : List ℕ) → Some a ≡ Some b → a ≡ b
same_some a b same = cc

pub usage_is_said : UsageIsSaid
usage_is_said = record {
  some = λ rules shelf (text, some, e). some (sym (ap (λ (x : Answer). x.err) e));
  shown = λ run before is rows kept.
      let (nothing, (text, some, all)) = rows.usage_shown refl in
      let more : run.err.after ≡ Some (before ++ text) = all.0 ∙ ap (λ (w : Option (List ℕ)). appended w text) is in
      some (append_cancel_left before text [] (same_some (before ++ text) (before ++ []) (sym more ∙ (kept ∙ ap (λ (l : List ℕ). Some l) (sym (append-nil before))))));
}
