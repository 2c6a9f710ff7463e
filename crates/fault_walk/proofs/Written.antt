-- What a definition writes of names, one by one.
use Rattle.std.proofs.Common.{◌≡◌, ◌∙◌, ◌||◌, ◌++◌, ℕ, Bool, true, false, cond, not, List, [], ◌∷◌, Option, None, Some, is_some, nat_eq, ◌+◌, refl, sym, ap}
use Rattle.std.specs.List.{flat_map}
use Rattle.std.specs.Prelude.{Result, Ok, Err, IfSome, OnOk}
use Rattle.ir_core.specs.NameIndexes.Among.{is_among}
use Rattle.ir_types.specs.declared.names.Name.{Name}
use Rattle.ir_types.specs.Same.{same_name}
use Rattle.module_derivations.specs.Ahead.{made_by}
use Rattle.module_derivations.specs.Empty.{no_attached}
use Rattle.module_derivations.specs.Parts.{Part, if_rule}
use Rattle.module_derivations.specs.declared.rule.TheConstants as rule
use Rattle.module_grammar.specs.declared.flow.BehindText.TheVariants as behind_text
use Rattle.module_grammar.specs.declared.flow.BlockText.{BlockText}
use Rattle.module_grammar.specs.declared.functions.DefinitionText.{DefinitionText}
use Rattle.module_grammar.specs.declared.lines.AttachedText.{AttachedText}
use Rattle.module_grammar.specs.declared.lines.CallBodyText.{CallBodyText}
use Rattle.module_grammar.specs.declared.lines.CallBodyText.TheVariants as body
use Rattle.module_grammar.specs.declared.lines.InstructionText.TheVariants as instruction
use Rattle.module_grammar.specs.declared.lines.VoidCallText.{VoidCallText}
use Rattle.module_grammar.specs.declared.lines.VoidCallText.TheVariants as of_void
use Rattle.module_grammar.specs.declared.places.Placed.{Placed}
use Rattle.module_grammar.specs.declared.types.TypeText.{TypeText}
use Rattle.name_claims.specs.declared.claims.Fault.{Fault}
use Rattle.name_claims.specs.declared.claims.Reason.TheVariants as reason
use Rattle.named_modules.specs.Built.{due_after, name_due, result_name}
use Rattle.named_modules.specs.Faults.{Written, at, block_written, counted_faults, defined, due_behind_written, function_written, number_faults, own_name_faults, sets, taken_behind, unless, written_faults}
use Rattle.named_modules.specs.Functions.{blocks_in}
use Rattle.fault_walk.specs.Names.{Counted, also, call_sets, counted_in, is_taken, none_counted, own_told, params_written, taken_with, undefined, with_all, with_blocks, with_written}
use Rattle.fault_walk.specs.Told.{faults_more, noted}
use Rattle.fault_walk.specs.declared.names.Walk.{Walk}
use Rattle.fault_walk.specs.declared.told.Told.{Told}
use Rattle.fault_walk.proofs.Differ.{differ}
use Rattle.fault_walk.proofs.Joined.{noted_joined}

-- ---- by another rule

-- what holds of the other holds where it isn't this rule
pub otherwise : {T U : Type 0} (f : T → U) (u : U) (r : Option ℕ) (n : ℕ) (then other : T) → (r ≡ Some n → ⊥) → f other ≡ u → f (if_rule r n then other) ≡ u
otherwise f u None n then other h k = k
otherwise f u (Some p) n then other h k = ap (λ b. f (cond b then other)) (differ p n (λ e. h (ap (λ p. Some p) e))) ∙ k

-- and what holds of both holds
pub of_both : {T U : Type 0} (f : T → U) (u : U) (r : Option ℕ) (n : ℕ) (then other : T) → f then ≡ u → f other ≡ u → f (if_rule r n then other) ≡ u
of_both f u None n then other h k = k
of_both f u (Some p) n then other h k = by (nat_eq p n)
  where
    by : (b : Bool) → f (cond b then other) ≡ u
    by true = h
    by false = k

pub no_params : (r : Option ℕ) (s : List Part) → (r ≡ Some rule.PARAMS → ⊥) → (made_by r s).params ≡ []
no_params r s h = otherwise (λ x. x) [] r rule.PARAMS _ _ h refl

pub no_more_params : (r : Option ℕ) (s : List Part) → (r ≡ Some rule.MORE_PARAMS → ⊥) → (made_by r s).more_params ≡ []
no_more_params r s h = otherwise (λ x. x) [] r rule.MORE_PARAMS _ _ h refl

pub no_lines : (r : Option ℕ) (s : List Part) → (r ≡ Some rule.LINES → ⊥) → (made_by r s).lines ≡ []
no_lines r s h = otherwise (λ x. x) [] r rule.LINES _ _ h refl

pub no_blocks : (r : Option ℕ) (s : List Part) → (r ≡ Some rule.BLOCKS → ⊥) → (made_by r s).blocks ≡ []
no_blocks r s h = otherwise (λ x. x) [] r rule.BLOCKS _ _ h refl

pub no_body : (r : Option ℕ) (s : List Part) → (r ≡ Some rule.BODY → ⊥) → (made_by r s).body ≡ record { phis = []; lines = [] }
no_body r s h = otherwise (λ x. x) (record { phis = []; lines = [] }) r rule.BODY _ _ h refl

pub no_behind_register :
    (r : Option ℕ) (s : List Part) → (r ≡ Some rule.BEHIND_PHI → ⊥) → (r ≡ Some rule.BEHIND_LINE → ⊥)
    → (made_by r s).behind_register ≡ behind_text.Line no_attached []
no_behind_register r s h k =
    otherwise (λ x. x) (behind_text.Line no_attached []) r rule.BEHIND_PHI _ _ h (otherwise (λ x. x) (behind_text.Line no_attached []) r rule.BEHIND_LINE _ _ k refl)

pub no_result : (r : Option ℕ) (s : List Part) → (r ≡ Some rule.TYPED_RESULT → ⊥) → is_some (made_by r s).result_type ≡ false
no_result r s h = of_both is_some false r rule.VOID_RESULT _ _ refl (otherwise is_some false r rule.TYPED_RESULT _ _ h refl)

pub no_call :
    (r : Option ℕ) (s : List Part) → (r ≡ Some rule.CONVENTION_CALL → ⊥) → (r ≡ Some rule.ATTRIBUTES_CALL → ⊥)
    → (r ≡ Some rule.TYPED_CALL → ⊥) → call_sets (made_by r s).call_body ≡ false
no_call r s h k l =
    otherwise call_sets false r rule.CONVENTION_CALL _ _ h
    (otherwise call_sets false r rule.ATTRIBUTES_CALL _ _ k
    (otherwise call_sets false r rule.TYPED_CALL _ _ l
    (of_both call_sets false r rule.CALL_OF_VOID _ _ refl refl)))

abbrev line_sets : AttachedText → Bool
line_sets w = sets w.instruction

pub sets_else :
    (r : Option ℕ) (s : List Part) → (r ≡ Some rule.STORE → ⊥) → (r ≡ Some rule.TAIL_CALL → ⊥) → (r ≡ Some rule.CALL → ⊥)
    → sets (made_by r s).attach.instruction ≡ true
sets_else r s h k l =
    of_both line_sets true r rule.OPERATION _ _ refl
    (of_both line_sets true r rule.ELEMENT _ _ refl
    (of_both line_sets true r rule.ALLOCA _ _ refl
    (of_both line_sets true r rule.LOAD _ _ refl
    (otherwise line_sets true r rule.STORE _ _ h
    (otherwise line_sets true r rule.TAIL_CALL _ _ k
    (otherwise line_sets true r rule.CALL _ _ l refl))))))

-- ---- which calls set something

result_set : (of : Option TypeText) → is_some of ≡ is_some (result_name 0 None of)
result_set None = refl
result_set (Some w) = refl

void_so : (tail is_stated : Bool) (v : VoidCallText) → false ≡ sets (instruction.Call (record { tail = tail; body = body.Void (record { is_stated = is_stated; call = v }) }))
void_so tail is_stated (of_void.Call x end) = refl
void_so tail is_stated (of_void.Debug x attributes) = refl

pub call_sets_so : (tail : Bool) (b : CallBodyText) → call_sets b ≡ sets (instruction.Call (record { tail = tail; body = b }))
call_sets_so tail (body.Convention attributes c end) = result_set c.result
call_sets_so tail (body.Attributes first others c end) = result_set c.result
call_sets_so tail (body.Typed t called x end) = refl
call_sets_so tail (body.Void v) = void_so tail v.is_stated v.call

-- ---- one name more

pub on_ok_both : {A E P Q R : Type 0} (r : Result A E) → OnOk r P → OnOk r Q → (P → Q → R) → OnOk r R
on_ok_both (Ok a) p q f = f p q
on_ok_both (Err e) p q f = tt

pub counted_behind : (o : Option ℕ) (next due : ℕ) → IfSome o (λ n. n ≡ due) → Some next ≡ o → next ≡ due
counted_behind None next due is e = cc
counted_behind (Some n) next due is e = let same : next ≡ n = cc in same ∙ is

abbrev fault_of : Told → Option Fault
fault_of t = t.fault

-- by its parts
counted_so : (s : Counted) (taken : Name → Bool) (due : ℕ) (fault : Option Fault) (t : Name → Bool) (d : ℕ) (f : Option Fault) → taken ≡ t → due ≡ d → fault ≡ f
    → (let one : Counted = record { taken = taken; due = due; fault = fault } in one) ≡ record { taken = t; due = d; fault = f }
counted_so s taken due fault t d f a b c = λ i. record { taken = a i; due = b i; fault = c i }

pub one_named :
    (whole : Placed Name) (walk new : Walk) (x : Placed Name) (taken : Bool) (one two : Told) → taken ≡ is_taken walk.taken x.what
    → (one ≡ faults_more (unless (not taken) (at x reason.Twice)) walk.told) → (two ≡ faults_more (number_faults walk.due x x.what) one)
    → is_taken new.taken ≡ also (is_taken walk.taken) x.what → new.due ≡ due_after walk.due x.what → new.told ≡ two
    → counted_in new ≡ with_written whole (counted_in walk) (defined (Some x))
unfolding with_written
one_named whole walk new x taken one two known first second put counted told =
    counted_so (counted_in walk) _ _ _ _ _ _ put counted
    (ap fault_of (told ∙ second)
    ∙ ap (λ (t : Told). noted (number_faults walk.due x x.what) t.fault) (first)
    ∙ sym (noted_joined (unless (not taken) (at x reason.Twice)) (number_faults walk.due x x.what) walk.told.fault)
    ∙ ap (λ b. noted (unless (not b) (at x reason.Twice) ++ number_faults walk.due x x.what) walk.told.fault) known)

pub one_numbered :
    (whole : Placed Name) (walk new : Walk) (fits : Bool) (one : Told) → (one ≡ faults_more (counted_faults whole walk.due) walk.told)
    → is_taken new.taken ≡ also (is_taken walk.taken) (name_due walk.due None) → new.due ≡ walk.due + 1 → new.told ≡ one
    → counted_in new ≡ with_written whole (counted_in walk) (defined None)
unfolding with_written
one_numbered whole walk new fits one first put counted told =
    counted_so (counted_in walk) _ _ _ _ _ _ put counted (ap fault_of (told ∙ first))

pub one_passed :
    (whole : Placed Name) (walk new : Walk) (x : Placed Name) (taken : Bool) (one two : Told) → taken ≡ is_taken walk.taken x.what
    → (one ≡ faults_more (unless (not taken) (at x reason.Twice)) walk.told) → (two ≡ faults_more (at x reason.WrongType ∷ []) one)
    → new.taken ≡ walk.taken → new.due ≡ walk.due → new.told ≡ two
    → counted_in new ≡ with_written whole (counted_in walk) (undefined (Some x))
unfolding with_written
one_passed whole walk new x taken one two known first second put counted told =
    counted_so (counted_in walk) _ _ _ _ _ _ (ap is_taken put) counted
    (ap fault_of (told ∙ second)
    ∙ ap (λ (t : Told). noted (at x reason.WrongType ∷ []) t.fault) (first)
    ∙ sym (noted_joined (unless (not taken) (at x reason.Twice)) (at x reason.WrongType ∷ []) walk.told.fault)
    ∙ ap (λ b. noted (unless (not b) (at x reason.Twice) ++ (at x reason.WrongType ∷ [])) walk.told.fault) known)

pub none_passed : (whole : Placed Name) (walk : Walk) → counted_in walk ≡ with_written whole (counted_in walk) (undefined None)
unfolding with_written
none_passed whole walk = refl

-- ---- all that is written

with_joined : (whole : Placed Name) (s : Counted) (ws vs : List Written) → with_all whole s (ws ++ vs) ≡ with_all whole (with_all whole s ws) vs
with_joined whole s [] vs = refl
with_joined whole s (w ∷ ws) vs = with_joined whole (with_written whole s w) ws vs

blocks_are : (whole : Placed Name) (s : Counted) (bs : List BlockText) → with_blocks whole s bs ≡ with_all whole s (flat_map block_written bs)
blocks_are whole s [] = refl
blocks_are whole s (b ∷ bs) = blocks_are whole (with_all whole s (block_written b)) bs ∙ sym (with_joined whole s (block_written b) (flat_map block_written bs))

own_is : (whole : Placed Name) (s : Counted) (taken : List Name) (x : Option (Placed Name)) (defines : Bool) → ((y : Name) → s.taken y ≡ is_among y taken)
    → own_told whole s.taken s.due x defines ≡ own_name_faults whole taken s.due x defines
own_is whole s taken None defines alike = refl
own_is whole s taken (Some x) true alike = ap (λ b. unless (not b) (at x reason.Twice) ++ number_faults s.due x x.what) (alike x.what)
own_is whole s taken (Some x) false alike = ap (λ b. unless (not b) (at x reason.Twice) ++ (at x reason.WrongType ∷ [])) (alike x.what)

taken_is : (s : Counted) (taken : List Name) (w : Written) → ((y : Name) → s.taken y ≡ is_among y taken)
    → (y : Name) → taken_with s.taken s.due w y ≡ is_among y (taken_behind taken s.due w)
unfolding also
taken_is s taken w alike y = go w.defines
  where
    more : (x : Name) → also s.taken x y ≡ (same_name y x || is_among y taken)
    more x = ap (λ b. same_name y x || b) (alike y)

    go : (b : Bool) → cond b (also s.taken (name_due s.due w.name)) s.taken y ≡ is_among y (cond b (name_due s.due w.name ∷ taken) taken)
    go true = more (name_due s.due w.name)
    go false = alike y

faults_are : (whole : Placed Name) (ws : List Written) (s : Counted) (taken : List Name) → ((y : Name) → s.taken y ≡ is_among y taken)
    → (with_all whole s ws).fault ≡ noted (written_faults whole taken s.due ws) s.fault
unfolding with_written
faults_are whole [] s taken alike = refl
faults_are whole (w ∷ ws) s taken alike =
    let rest = written_faults whole (taken_behind taken s.due w) (due_behind_written s.due w) ws in
    faults_are whole ws (with_written whole s w) (taken_behind taken s.due w) (taken_is s taken w alike)
    ∙ sym (noted_joined (own_told whole s.taken s.due w.name w.defines) rest s.fault)
    ∙ ap (λ (fs : List Fault). noted (fs ++ rest) s.fault) (own_is whole s taken w.name w.defines alike)

pub all_written :
    (whole : Placed Name) (d : DefinitionText) (start params : Counted) (walk : Walk) → start ≡ none_counted → params ≡ with_all whole start (params_written d.head.params)
    → counted_in walk ≡ with_blocks whole params (blocks_in d) → walk.told.fault ≡ noted (written_faults whole [] 0 (function_written d)) None
all_written whole d start params walk none first second =
    let ws = params_written d.head.params in
    let vs = flat_map block_written (blocks_in d) in
    ap (λ (s : Counted). s.fault)
    (second ∙ blocks_are whole params (blocks_in d) ∙ ap (λ (s : Counted). with_all whole s vs) (first ∙ ap (λ (s : Counted). with_all whole s ws) none)
    ∙ sym (with_joined whole none_counted ws vs))
    ∙ faults_are whole (ws ++ vs) none_counted [] (λ y. refl)
