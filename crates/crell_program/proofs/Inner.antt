-- What the inner calls owe, from what those that they make ensure.
use Rattle.std.proofs.Common.{◌≡◌, ◌≢◌, ◌≤◌, ◌<◌, ℕ, List, [], ◌∷◌, length, get_or, IfOk, Result, Ok, Err, Option, None, Some, refl, sym, ◌∙◌, ap, subst, inl, inr, arith}
use Rattle.ir_core.specs.declared.modules.Module.{Module}
use Rattle.ir_core.specs.declared.limits.Limit.{Limit}
use Rattle.ir_core.specs.declared.limits.Limit.TheVariants as limit
use Rattle.ir_reader.specs.declared.fault.ModuleFault.{ModuleFault}
use Rattle.ir_reader.specs.declared.fault.ModuleFault.TheVariants as faults
use Rattle.erhl_assert.specs.declared.hints.Hints.{Hints}
use Rattle.erhl_assert.specs.Steps.{Rules}
use Rattle.crell_program.specs.PairAnswer.{pair_answer}
use Rattle.json_forms.specs.declared.failure.Fault.{Fault}
use Rattle.hint_format.specs.Form.{HintsOf, IsHintFault, IsHintReading}
use Rattle.hint_format.proofs.Readings.{readings_are_one}
use Rattle.json_forms.specs.Forms.{Reading}
use Rattle.crell_program.specs.CrellAnswers.Answer.{usage, module_fault, at_fault, past_limit}
use Rattle.ir_machine.specs.Refinement.{Refines}
use Rattle.erhl_assert.specs.declared.verdict.ModuleVerdict.{ModuleVerdict}
use Rattle.erhl_assert.specs.declared.verdict.ModuleVerdict.TheVariants as modules
use Rattle.crell_io.specs.Shelf.{Told, IfTold}
use Rattle.crell_program.specs.declared.crell_answers.answer.Answer.{Answer}
use Rattle.crell_program.specs.declared.command_line.request.Listing.{Listing}
use Rattle.crell_program.specs.CommandLine.Words.{CheckFiles, Command, Check, Print}
use Rattle.crell_program.specs.Command.{File, files_of}
use Rattle.crell_program.specs.Fetching.{AreHeld}
use Rattle.crell_program.specs.CrellAnswers.VerdictText.{verdict_status, verdict_answer}
use Rattle.crell_program.specs.Due.{ShelfSeen, Held, Missing, Long, Broken, DueOfFile, DueOfFiles, DueOfCheck, DueOfListing, DueOfTexts, IsListing, IsReadOnlyAs, checked}
use Rattle.crell_program.specs.Modules.{SpellsOne, SpellsOnly}
use Rattle.ir_reader.specs.Faults.{IsModuleFault}
use Rattle.crell_program.specs.Delivery.{SinkSeen, IsDelivered, Untouched}
use Rattle.crell_program.specs.Rows.{IsAnswered}
use Rattle.crell_program.specs.Statuses.{AreRefined, IsRefinement, IsRefinementOfBytes}
use Rattle.crell_program.proofs.Bytes.{if_told}
use Rattle.crell_program.proofs.Fetches.{due_of_held}
use Rattle.crell_program.proofs.FaultStatus.{module_fault_status, fault_status_isnt_zero}

pub if_ok_then : {A E : Type 0} (r : Result A E) (P Q : A → Type 0) → ((a : A) → P a → Q a) → IfOk r P → IfOk r Q
if_ok_then (Ok a) P Q f p = f a p
if_ok_then (Err e) P Q f p = tt

-- status 0 is the answer's own
pub zero_of : (answer : Answer) (out err : SinkSeen) (status : ℕ) → IsDelivered answer out err status → status ≡ 0 → answer.status ≡ 0
zero_of answer out err status (inl (e, to_out, to_err)) z = omega arith
zero_of answer out err status (inr (inl (e, part, nothing))) z = absurd (omega arith)
zero_of answer out err status (inr (inr (e, all, part))) z = absurd (omega arith)

pub zero_is_valid : (v : ModuleVerdict) → verdict_status v ≡ 0 → v ≡ modules.Valid
zero_is_valid modules.Valid e = refl
zero_is_valid (modules.Differs what) e = absurd (omega arith)
zero_is_valid (modules.Refused function block spot reason) e = absurd (omega arith)

-- an answer because of one file isn't of status 0
file_isnt_zero : (shelf : ShelfSeen) (file : File) (answer : Answer) (next : List ℕ → Type 0)
    → ((text : List ℕ) → next text → ⊥) → DueOfFile shelf file answer next → answer.status ≡ 0 → ⊥
file_isnt_zero shelf file answer next leads (Held text, m, d) z = leads text d
file_isnt_zero shelf file answer next leads (Missing, m, d) z = let e = ap (λ (a : Answer). a.status) d in absurd (omega arith)
file_isnt_zero shelf file answer next leads (Long, m, d) z = let e = ap (λ (a : Answer). a.status) d in absurd (omega arith)
file_isnt_zero shelf file answer next leads (Broken, m, d) z = let e = ap (λ (a : Answer). a.status) d in absurd (omega arith)

pub files_arent_zero : (shelf : ShelfSeen) (files : List File) (answer : Answer) → DueOfFiles shelf files answer (λ texts. ⊥) → answer.status ≡ 0 → ⊥
files_arent_zero shelf [] answer due z = due
files_arent_zero shelf (file ∷ files) answer due z = file_isnt_zero shelf file answer _ (λ text d. files_arent_zero shelf files answer d z) due z

-- what a hint file's text is read as is all that it is read as
read_only : (text : List ℕ) (due : Reading Hints) → IsHintReading text due → IsReadOnlyAs text due
read_only text due is = (is, λ other also. readings_are_one text other due also is)

module _ {E : Type 0} (rules : Rules) (names : CheckFiles) (source target hints : List ℕ) where
  pub unfit_source : (fault : ModuleFault) → IsModuleFault source fault → (r : Result Answer E) → IfOk r (λ _. fault ≢ faults.Memory)
      → IfOk r (λ a. a ≡ module_fault fault source names.source) → IfOk r (λ answer. DueOfCheck rules names answer source target hints)
  unfit_source fault is (Ok answer) said e = inl (fault, (is, said), e)
  unfit_source fault is (Err end) said e = e

  module _ (s : Module) (sp : SpellsOnly source s) where
    pub unfit_target : (fault : ModuleFault) → IsModuleFault target fault → (r : Result Answer E) → IfOk r (λ _. fault ≢ faults.Memory)
        → IfOk r (λ a. a ≡ module_fault fault target names.target) → IfOk r (λ answer. DueOfCheck rules names answer source target hints)
    unfit_target fault is (Ok answer) said e = inr (s, sp, inl (fault, (is, said), e))
    unfit_target fault is (Err end) said e = e

    module _ (t : Module) (tp : SpellsOnly target t) where
      pub unfit_hints : (fault : Fault) → IsHintFault hints fault → (r : Result Answer E) → IfOk r (λ a. a ≡ at_fault fault names.hints)
          → IfOk r (λ answer. DueOfCheck rules names answer source target hints)
      unfit_hints fault is (Ok answer) e = inr (s, sp, inr (t, tp, inl (fault, read_only hints (Err fault) is, e)))
      unfit_hints fault is (Err end) e = e

      pub texts_judged : (h : Hints) → HintsOf hints h → (r : Result Answer E) → IfOk r (λ a. a ≡ checked (pair_answer rules s t h) names.source)
          → IfOk r (λ answer. DueOfCheck rules names answer source target hints)
      texts_judged h hp (Ok answer) e = inr (s, sp, inr (t, tp, inr (h, read_only hints (Ok h) hp, e)))
      texts_judged h hp (Err end) e = e

-- refinement of the two modules that two texts spell alone is refinement of the texts
pub refined : (source target : List ℕ) (s t : Module) → SpellsOnly source s → SpellsOnly target t → Refines s t → AreRefined source target
refined source target s t sp tp refines = (
  (s, sp.0.0, sp.1),
  (t, tp.0.0, tp.1),
  λ x y xp yp.
      let es : s ≡ x = sym (sp.1 x xp) in
      let et : t ≡ y = sym (tp.1 y yp) in
      subst (λ (m : Module). Refines m y) es (subst (λ (m : Module). Refines s m) et refines),
)

-- and the other way
pub refined_modules : (source target : List ℕ) (s t : Module) → SpellsOnly source s → SpellsOnly target t → AreRefined source target → Refines s t
refined_modules source target s t sp tp are = are.2 s t sp.0.0 tp.0.0

pub texts_refined : {E : Type 0} (source target : List ℕ) (s t : Module) → SpellsOnly source s → SpellsOnly target t
    → (r : Result Answer E) → IfOk r (λ a. a.status ≡ 0 → Refines s t) → IfOk r (λ a. a.status ≡ 0 → AreRefined source target)
texts_refined source target s t sp tp (Ok answer) refines = λ z. refined source target s t sp tp (refines z)
texts_refined source target s t sp tp (Err end) refines = refines

pub judged_refined : {E : Type 0} (s t : Module) (v : ModuleVerdict) → (v ≡ modules.Valid → Refines s t) → (r : Result Answer E)
    → IfOk r (λ a. a ≡ verdict_answer v) → IfOk r (λ a. a.status ≡ 0 → Refines s t)
judged_refined s t v refines (Ok answer) e = λ z. refines (zero_is_valid v (sym (ap (λ (a : Answer). a.status) e) ∙ z))
judged_refined s t v refines (Err end) e = e

-- the answer to a verdict is that to what the checker says
pub verdict_is_checked : {E : Type 0} (said : Option ModuleVerdict) (file : List ℕ) (v : ModuleVerdict) → said ≡ Some v → (r : Result Answer E)
    → IfOk r (λ a. a ≡ verdict_answer v) → IfOk r (λ a. a ≡ checked said file)
verdict_is_checked said file v is (Ok answer) e = e ∙ ap (λ (x : Option ModuleVerdict). checked x file) (sym is)
verdict_is_checked said file v is (Err end) e = e

-- so is the answer to too many facts
pub limit_is_checked : {E : Type 0} (said : Option ModuleVerdict) (file : List ℕ) (l : Limit) → l ≡ limit.Facts → said ≡ None → (r : Result Answer E)
    → IfOk r (λ a. a ≡ past_limit l file) → IfOk r (λ a. a ≡ checked said file)
limit_is_checked said file l facts none (Ok answer) e =
    e ∙ ap (λ (x : Limit). past_limit x file) facts ∙ ap (λ (x : Option ModuleVerdict). checked x file) (sym none)
limit_is_checked said file l facts none (Err end) e = e

-- which isn't of status 0
pub limit_isnt_zero : {E : Type 0} (s t : Module) (file : List ℕ) (l : Limit) → (r : Result Answer E)
    → IfOk r (λ a. a ≡ past_limit l file) → IfOk r (λ a. a.status ≡ 0 → Refines s t)
limit_isnt_zero s t file l (Ok answer) e = λ z. let nine = ap (λ (a : Answer). a.status) e in absurd (omega arith)
limit_isnt_zero s t file l (Err end) e = e

-- an answer because of a module's fault isn't of status 0
fault_isnt_zero : (fault : ModuleFault) (text file : List ℕ) → (module_fault fault text file).status ≡ 0 → ⊥
fault_isnt_zero fault text file z = let e = module_fault_status fault text file in fault_status_isnt_zero fault (sym e ∙ z)

pub fault_refined : {E : Type 0} (source target : List ℕ) (fault : ModuleFault) (text file : List ℕ) → (r : Result Answer E)
    → IfOk r (λ a. a ≡ module_fault fault text file) → IfOk r (λ a. a.status ≡ 0 → AreRefined source target)
fault_refined source target fault text file (Ok answer) e = λ z. absurd (fault_isnt_zero fault text file (sym (ap (λ (a : Answer). a.status) e) ∙ z))
fault_refined source target fault text file (Err end) e = e

three_of : (xs : List (List ℕ)) (a b c : List ℕ) → 3 ≤ length xs → length xs < 4 → a ≡ get_or xs 0 a → b ≡ get_or xs 1 b → c ≡ get_or xs 2 c
    → xs ≡ a ∷ b ∷ c ∷ []
three_of [] a b c l m e f g = absurd (omega arith)
three_of (x ∷ []) a b c l m e f g = absurd (omega arith)
three_of (x ∷ y ∷ []) a b c l m e f g = absurd (omega arith)
three_of (x ∷ y ∷ z ∷ []) a b c l m e f g = cc
three_of (x ∷ y ∷ z ∷ w ∷ xs) a b c l m e f g = absurd (omega arith)

-- the texts that were fetched are three, lent one by one
pub held_three : (shelf : ShelfSeen) (names : CheckFiles) (files : List File) (texts lent : List (List ℕ)) (a b c source target hints : List ℕ)
    → AreHeld shelf files texts → files ≡ files_of (Check names) → lent ≡ texts → 3 ≤ length lent → length lent < 4
    → a ≡ get_or lent 0 a → b ≡ get_or lent 1 b → c ≡ get_or lent 2 c → source ≡ a → target ≡ b → hints ≡ c
    → AreHeld shelf (files_of (Check names)) (source ∷ target ∷ hints ∷ [])
held_three shelf names files texts lent a b c source target hints held is same least most at_a at_b at_c x y z =
    let all : texts ≡ source ∷ target ∷ hints ∷ [] = sym same ∙ three_of lent a b c least most at_a at_b at_c ∙ cc (x, y, z) in
    subst (λ (fs : List File). AreHeld shelf fs (source ∷ target ∷ hints ∷ [])) is (subst (λ (ts : List (List ℕ)). AreHeld shelf files ts) all held)

-- the three texts of `check` that were fetched
module _ {E : Type 0} (shelf : ShelfSeen) (names : CheckFiles) (source target hints : List ℕ)
    (all : AreHeld shelf (files_of (Check names)) (source ∷ target ∷ hints ∷ [])) (r : Result Answer E) where
  pub files_judged : (rules : Rules) → IfOk r (λ answer. DueOfCheck rules names answer source target hints)
      → IfOk r (λ answer. DueOfFiles shelf (files_of (Check names)) answer (DueOfTexts rules (Check names) answer))
  files_judged rules due = if_ok_then r _ _
      (λ answer d. due_of_held shelf (files_of (Check names)) (source ∷ target ∷ hints ∷ []) answer (DueOfTexts rules (Check names) answer) all d) due

  pub files_refined : IfOk r (λ answer. answer.status ≡ 0 → AreRefined source target)
      → IfOk r (λ answer. answer.status ≡ 0 → IsRefinement shelf.told (Check names))
  files_refined refined_texts = if_ok_then r _ _
      (λ answer f z. if_told (shelf.told names.source) source (λ a. IfTold (shelf.told names.target) (λ b. AreRefined a b)) all.0.1
      (if_told (shelf.told names.target) target (λ b. AreRefined source b) all.1.0.1 (f z))) refined_texts

-- ---- the text of `defs` or `fmt`

one_of : (xs : List (List ℕ)) (a : List ℕ) → 1 ≤ length xs → length xs < 2 → a ≡ get_or xs 0 a → xs ≡ a ∷ []
one_of [] a l m e = absurd (omega arith)
one_of (x ∷ []) a l m e = cc
one_of (x ∷ y ∷ xs) a l m e = absurd (omega arith)

-- the text that was fetched is one, lent
pub held_one : (shelf : ShelfSeen) (listing : Listing) (name : List ℕ) (files : List File) (texts lent : List (List ℕ)) (a text : List ℕ)
    → AreHeld shelf files texts → files ≡ files_of (Print listing name) → lent ≡ texts → 1 ≤ length lent → length lent < 2 → a ≡ get_or lent 0 a → text ≡ a
    → AreHeld shelf (files_of (Print listing name)) (text ∷ [])
held_one shelf listing name files texts lent a text held is same least most at e =
    let all : texts ≡ text ∷ [] = sym same ∙ one_of lent a least most at ∙ ap (λ (t : List ℕ). t ∷ []) (sym e) in
    subst (λ (fs : List File). AreHeld shelf fs (text ∷ [])) is (subst (λ (ts : List (List ℕ)). AreHeld shelf files ts) all held)

module _ {E : Type 0} (shelf : ShelfSeen) (listing : Listing) (name text : List ℕ)
    (all : AreHeld shelf (files_of (Print listing name)) (text ∷ [])) (r : Result Answer E) where
  pub file_judged : (rules : Rules) → IfOk r (λ answer. DueOfListing listing name answer text)
      → IfOk r (λ answer. DueOfFiles shelf (files_of (Print listing name)) answer (DueOfTexts rules (Print listing name) answer))
  file_judged rules due = if_ok_then r _ _
      (λ answer d. due_of_held shelf (files_of (Print listing name)) (text ∷ []) answer (DueOfTexts rules (Print listing name) answer) all d) due

  pub file_spelled : IfOk r (λ answer. answer.status ≡ 0 → SpellsOne text) → IfOk r (λ answer. answer.status ≡ 0 → IsRefinement shelf.told (Print listing name))
  file_spelled spelled = if_ok_then r _ _ (λ answer f z. if_told (shelf.told name) text (SpellsOne) all.0.1 (f z)) spelled

module _ {E : Type 0} (listing : Listing) (name text : List ℕ) (r : Result Answer E) where
  -- what is listed of a module is printed
  pub listing_judged : (m : Module) → SpellsOnly text m → IfOk r (IsListing listing m) → IfOk r (λ answer. DueOfListing listing name answer text)
  listing_judged m sp = if_ok_then r (IsListing listing m) (λ answer. DueOfListing listing name answer text) (λ answer printed. inr (m, sp, printed))

  pub one_spelled : (m : Module) → SpellsOnly text m → IfOk r (IsListing listing m) → IfOk r (λ answer. answer.status ≡ 0 → SpellsOne text)
  one_spelled m sp = if_ok_then r (IsListing listing m) (λ answer. answer.status ≡ 0 → SpellsOne text) (λ answer printed z. (m, sp.0.0, sp.1))

-- or its fault is told
pub fault_listed : {E : Type 0} (listing : Listing) (name text : List ℕ) (fault : ModuleFault) → IsModuleFault text fault → (r : Result Answer E) → IfOk r (λ _. fault ≢ faults.Memory)
    → IfOk r (λ a. a ≡ module_fault fault text name) → IfOk r (λ answer. DueOfListing listing name answer text)
fault_listed listing name text fault is (Ok answer) said e = inl (fault, (is, said), e)
fault_listed listing name text fault is (Err end) said e = e

pub fault_spelled : {E : Type 0} (name text : List ℕ) (fault : ModuleFault) → (r : Result Answer E)
    → IfOk r (λ a. a ≡ module_fault fault text name) → IfOk r (λ answer. answer.status ≡ 0 → SpellsOne text)
fault_spelled name text fault (Ok answer) e = λ z. absurd (fault_isnt_zero fault text name (sym (ap (λ (a : Answer). a.status) e) ∙ z))
fault_spelled name text fault (Err end) e = e

-- what is delivered of the answer's texts is delivered of the answer
pub delivered_as : (answer : Answer) (out_text err_text : List ℕ) (out err : SinkSeen) (status : ℕ) → out_text ≡ answer.out → err_text ≡ answer.err
    → IsDelivered (record { status = answer.status; out = out_text; err = err_text }) out err status → IsDelivered answer out err status
delivered_as answer out_text err_text out err status e f d =
    let P : List ℕ → Type 0 = λ t. IsDelivered (record { status = answer.status; out = t; err = answer.err }) out err status in
    let Q : List ℕ → Type 0 = λ t. IsDelivered (record { status = answer.status; out = out_text; err = t }) out err status in
    subst P e (subst Q f d)

pub answered_with_usage : (rules : Rules) (shelf : ShelfSeen) (out err : SinkSeen) (command : Option Command) (text : List ℕ) (status : ℕ) → text ≢ [] → None ≡ command
    → IsDelivered (usage text) out err status → IsAnswered (record { rules = rules; command = command; shelf = shelf; out = out; err = err }) status
answered_with_usage rules shelf out err command text status some e d =
    let P : Option Command → Type 0 = λ c. IsAnswered (record { rules = rules; command = c; shelf = shelf; out = out; err = err }) status in
    subst P e (inl (usage text, (text, some, refl), d))

pub answered_for : (rules : Rules) (shelf : ShelfSeen) (out err : SinkSeen) (which : Command) (command : Option Command) (status : ℕ) → Some which ≡ command
    → IsAnswered (record { rules = rules; command = Some which; shelf = shelf; out = out; err = err }) status
    → IsAnswered (record { rules = rules; command = command; shelf = shelf; out = out; err = err }) status
answered_for rules shelf out err which command status e answered =
    let P : Option Command → Type 0 = λ c. IsAnswered (record { rules = rules; command = c; shelf = shelf; out = out; err = err }) status in
    subst P e answered

pub refinement_for : (told : List ℕ → Told) (which : Command) (command : Option Command) (status : ℕ) → Some which ≡ command
    → (status ≡ 0 → IsRefinement told which) → status ≡ 0 → IsRefinementOfBytes told command
refinement_for told which command status e refined z =
    let P : Option Command → Type 0 = λ c. IsRefinementOfBytes told c in subst P e (refined z)

-- the usage isn't of status 0
pub usage_isnt_zero : (out err : SinkSeen) (text : List ℕ) (status : ℕ) → IsDelivered (usage text) out err status → status ≡ 0 → ⊥
usage_isnt_zero out err text status delivered z =
    let e : (usage text).status ≡ 0 = zero_of (usage text) out err status delivered z in absurd (omega arith)

-- memory was refused, and no sink was asked
pub unanswered : (rules : Rules) (shelf : ShelfSeen) (out err : SinkSeen) (command : Option Command) → Untouched out → Untouched err
    → IsAnswered (record { rules = rules; command = command; shelf = shelf; out = out; err = err }) 8
unanswered rules shelf out err command a b = inr (refl, a, b)
