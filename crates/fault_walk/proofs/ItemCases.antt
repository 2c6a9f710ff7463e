-- What is told of items, part by part.
use Rattle.std.proofs.Common.{◌≡◌, ◌∙◌, ◌+◌, ◌<◌, ◌≤◌, ◌||◌, ◌++◌, ℕ, Bool, true, false, cond, not, List, [], ◌∷◌, drop, get_or, length, Option, None, Some, refl, sym, ap, append_assoc}
use Rattle.std.proofs.lemmas.List.{drop_all, drop_more}
use Rattle.std.specs.List.{cons_option, filter, filter_map, flat_map}
use Rattle.module_derivations.specs.FlatMarks.Flat.{behind}
use Rattle.ir_core.specs.declared.functions.Function.{Function}
use Rattle.ir_core.specs.NameIndexes.Among.{is_among}
use Rattle.ir_types.proofs.Monotone.{at_int}
use Rattle.ir_types.specs.Named.{block_in, found_in, layout_of, layout_of_name}
use Rattle.ir_types.specs.declared.ty.Ty.{Ty, Int}
use Rattle.ir_types.specs.declared.named.NamedTy.{NamedTy}
use Rattle.ir_types.specs.declared.names.Name.{Name}
use Rattle.ir_types.specs.Same.{same_name}
use Rattle.ir_typing.specs.ShapeKinds.Names.{with_name}
use Rattle.module_derivations.specs.Ahead.{made_by}
use Rattle.module_derivations.specs.Empty.{no_global_body, no_type}
use Rattle.module_derivations.specs.Parts.{Part}
use Rattle.module_derivations.specs.declared.rule.TheConstants as rule
use Rattle.module_grammar.specs.declared.functions.DeclarationText.{DeclarationText}
use Rattle.module_grammar.specs.declared.functions.DeclaredText.{DeclaredText}
use Rattle.module_grammar.specs.declared.functions.DefinitionText.{DefinitionText}
use Rattle.module_grammar.specs.declared.functions.NextDeclaredText.TheVariants as next_declared
use Rattle.module_grammar.specs.declared.items.GlobalBodyText.{GlobalBodyText}
use Rattle.module_grammar.specs.declared.items.ItemText.{ItemText}
use Rattle.module_grammar.specs.declared.items.ItemText.TheVariants as item
use Rattle.module_grammar.specs.declared.items.ModuleText.{ModuleText}
use Rattle.module_grammar.specs.declared.items.TypeBodyText.TheVariants as type_body
use Rattle.module_grammar.specs.declared.places.Placed.{Placed}
use Rattle.module_grammar.specs.declared.types.CalledText.{CalledText}
use Rattle.module_spelling.specs.Blocks.{Wanted, if_faultless, is_too_large, so_many, wanted_at_start, wanted_by_block, wanted_by_global, wanted_by_item}
use Rattle.name_claims.specs.declared.claims.Fault.{Fault}
use Rattle.name_claims.specs.declared.claims.Reason.TheVariants as reason
use Rattle.named_modules.specs.Built.{declared_params, due_after, function_of, module_of}
use Rattle.named_modules.specs.Constants.{global_name}
use Rattle.named_modules.specs.Faults.{Heads, align_faults, at, block_faults, declaration_faults, due_faults, faults_of, first_at_level, first_of, function_faults, function_written, global_name_faults, global_var_faults, global_written, heads_of, held_faults, is_global, item_faults, number_faults, param_faults, result_faults, things_of, twice_faults, type_faults, type_faults_at_level, type_name, type_name_faults, unless, written_faults}
use Rattle.named_modules.specs.Functions.{blocks_in, is_dropped_name, name_declared}
use Rattle.named_modules.specs.Modules.{definition_item}
use Rattle.named_modules.specs.Types.{type_of}
use Rattle.named_modules.proofs.BuiltTypes.{of_int}
use Rattle.named_modules.proofs.TypeKinds as kind
use Rattle.fault_walk.specs.Items.{as_function, due_over, due_told, due_with, kept_faults, listed, name_kept, names_in, picked, taken_faults, taken_with, wanted_by_definition}
use Rattle.fault_walk.specs.Told.{faults_more, noted, noted_large, told_more, with_other, with_place_if}
use Rattle.fault_walk.specs.declared.items.Listed.{Listed}
use Rattle.fault_walk.specs.declared.items.Pick.{Pick}
use Rattle.fault_walk.specs.declared.items.Pick.TheVariants as pick
use Rattle.fault_walk.specs.declared.told.Told.{Told}
use Rattle.fault_walk.proofs.Joined.{noted_apart, noted_joined, told_first, told_joined}
use Rattle.fault_walk.proofs.Kept.{among_with}
use Rattle.fault_walk.proofs.Written.{of_both, otherwise}

-- ---- by another rule

pub no_result_type : (r : Option ℕ) (s : List Part) → (r ≡ Some rule.TYPED_RESULT → ⊥) → (made_by r s).result_type ≡ None
no_result_type r s h = of_both (λ x. x) None r rule.VOID_RESULT _ _ refl (otherwise (λ x. x) None r rule.TYPED_RESULT _ _ h refl)

pub no_next_declared : (r : Option ℕ) (s : List Part) → (r ≡ Some rule.DECLARED_PARAM → ⊥) → (made_by r s).next_declared ≡ next_declared.Open
no_next_declared r s h =
    of_both (λ x. x) next_declared.Open r rule.DECLARED_OPEN _ _ refl (otherwise (λ x. x) next_declared.Open r rule.DECLARED_PARAM _ _ h refl)

pub no_more_declared : (r : Option ℕ) (s : List Part) → (r ≡ Some rule.MORE_DECLARED → ⊥) → (made_by r s).more_declared ≡ record { params = []; is_open = false }
no_more_declared r s h = otherwise (λ x. x) (record { params = []; is_open = false }) r rule.MORE_DECLARED _ _ h refl

pub dropped_else :
    (r : Option ℕ) (s : List Part) → (r ≡ Some rule.DECLARED → ⊥) → (r ≡ Some rule.DECLARED_DEBUG → ⊥) → is_dropped_name (made_by r s).declared_name ≡ true
dropped_else r s h k = otherwise is_dropped_name true r rule.DECLARED _ _ h (otherwise is_dropped_name true r rule.DECLARED_DEBUG _ _ k refl)

pub lists_no_name :
    (r : Option ℕ) (s : List Part) → (r ≡ Some rule.DECLARED → ⊥) → (r ≡ Some rule.DECLARED_DEBUG → ⊥) → name_kept (made_by r s).declared_name ≡ None
lists_no_name r s h k = otherwise name_kept None r rule.DECLARED _ _ h (otherwise name_kept None r rule.DECLARED_DEBUG _ _ k refl)

pub no_items : (r : Option ℕ) (s : List Part) → (r ≡ Some rule.ITEMS → ⊥) → (made_by r s).whole ≡ record { items = [] }
no_items r s h = otherwise (λ x. x) (record { items = [] }) r rule.ITEMS _ _ h refl

pub no_type_body : (r : Option ℕ) (s : List Part) → (r ≡ Some rule.STRUCT_BODY → ⊥) → (made_by r s).type_body ≡ type_body.Opaque
no_type_body r s h = of_both (λ x. x) type_body.Opaque r rule.OPAQUE _ _ refl (otherwise (λ x. x) type_body.Opaque r rule.STRUCT_BODY _ _ h refl)

pub no_global_there :
    (r : Option ℕ) (s : List Part) → (r ≡ Some rule.EXTERNAL_GLOBAL → ⊥) → (r ≡ Some rule.HELD_GLOBAL → ⊥) → (made_by r s).global_body ≡ no_global_body
no_global_there r s h k =
    otherwise (λ x. x) no_global_body r rule.EXTERNAL_GLOBAL _ _ h (otherwise (λ x. x) no_global_body r rule.HELD_GLOBAL _ _ k refl)

-- what holds of what items say nothing
of_item : {U : Type 0} (f : ItemText → U) (u : U) (r : Option ℕ) (s : List Part) → (r ≡ Some rule.NAMED_TYPE → ⊥) → (r ≡ Some rule.GLOBAL → ⊥) → (r ≡ Some rule.DECLARATION → ⊥)
    → (r ≡ Some rule.DEFINITION → ⊥) → f item.Target ≡ u → ((at : ℕ) → f (item.Attributes at) ≡ u) → ((d : Bool) (m : _) → f (item.Metadata d m) ≡ u) → f (made_by r s).item ≡ u
of_item f u r s h k l m target attributes metadata =
    of_both f u r rule.TARGET _ _ target
    (of_both f u r rule.ATTRIBUTES _ _ (attributes _)
    (of_both f u r rule.METADATA _ _ (metadata _ _)
    (otherwise f u r rule.DECLARATION _ _ l
    (otherwise f u r rule.NAMED_TYPE _ _ h
    (otherwise f u r rule.GLOBAL _ _ k
    (otherwise f u r rule.DEFINITION _ _ m target))))))

pub lists_nothing :
    (r : Option ℕ) (s : List Part) → (r ≡ Some rule.NAMED_TYPE → ⊥) → (r ≡ Some rule.GLOBAL → ⊥) → (r ≡ Some rule.DECLARATION → ⊥) → (r ≡ Some rule.DEFINITION → ⊥)
    → listed (made_by r s).item ≡ None
lists_nothing r s h k l m = of_item listed None r s h k l m refl (λ at. refl) (λ d m. refl)

pub builds_nothing :
    (r : Option ℕ) (s : List Part) → (r ≡ Some rule.NAMED_TYPE → ⊥) → (r ≡ Some rule.GLOBAL → ⊥) → (r ≡ Some rule.DECLARATION → ⊥) → (r ≡ Some rule.DEFINITION → ⊥)
    → definition_item (made_by r s).item ≡ None
builds_nothing r s h k l m = of_item definition_item None r s h k l m refl (λ at. refl) (λ d m. refl)

pub wants_nothing :
    (r : Option ℕ) (s : List Part) → (r ≡ Some rule.NAMED_TYPE → ⊥) → (r ≡ Some rule.GLOBAL → ⊥) → (r ≡ Some rule.DECLARATION → ⊥) → (r ≡ Some rule.DEFINITION → ⊥)
    → (h : Heads) → wanted_by_item h (made_by r s).item ≡ []
wants_nothing r s h k l m heads = of_item (wanted_by_item heads) [] r s h k l m refl (λ at. refl) (λ d m. refl)

pub faultless_item :
    (r : Option ℕ) (s : List Part) → (r ≡ Some rule.NAMED_TYPE → ⊥) → (r ≡ Some rule.GLOBAL → ⊥) → (r ≡ Some rule.DECLARATION → ⊥) → (r ≡ Some rule.DEFINITION → ⊥)
    → (h : Heads) (stated : Placed Name → CalledText) (params : Placed Name → DeclaredText) → item_faults h stated params (made_by r s).item ≡ []
faultless_item r s h k l m heads stated params = of_item (item_faults heads stated params) [] r s h k l m refl (λ at. refl) (λ d m. refl)

-- ---- one behind the other

pub told_both : (h : Heads) (fs gs : List Fault) (ws vs : List Wanted) (t one two : Told) → one ≡ told_more h fs ws t → two ≡ told_more h gs vs one
    → two ≡ told_more h (fs ++ gs) (ws ++ vs) t
told_both h fs gs ws vs t one two first second =
    second ∙ ap (told_more h gs vs) first ∙ sym (told_joined h fs gs ws vs t)

pub told_faults : (h : Heads) (fs gs : List Fault) (ws : List Wanted) (t one two : Told) → one ≡ told_more h fs ws t → two ≡ told_more h gs [] one
    → two ≡ told_more h (fs ++ gs) ws t
told_faults h fs gs ws t one two first second =
    second ∙ ap (told_more h gs []) first ∙ sym (told_first h fs gs ws t)

pub faults_both : (fs gs : List Fault) (t one two : Told) → one ≡ faults_more fs t → two ≡ faults_more gs one → two ≡ faults_more (fs ++ gs) t
faults_both fs gs t one two first second =
    second ∙ ap (faults_more gs) first ∙ sym (ap (λ (o : Option Fault). let one : Told = record { fault = o; large = t.large } in one) (noted_joined fs gs t.fault))

-- ---- declarations

pub declared_noted : (h : Heads) (params : Placed Name → DeclaredText) (w : DeclarationText) (told one two : Told) → is_dropped_name w.declared ≡ false
    → one ≡ told_more h (result_faults h w.result.ty) [] told → two ≡ told_more h (flat_map (param_faults h) (declared_params params w.declared).params) [] one
    → two ≡ told_more h (declaration_faults h params w) [] told
declared_noted h params w told one two kept first second =
    let all = result_faults h w.result.ty ++ flat_map (param_faults h) (declared_params params w.declared).params in
    told_both h (result_faults h w.result.ty) (flat_map (param_faults h) (declared_params params w.declared).params) [] [] told one two first second
    ∙ sym (ap (λ b. told_more h (cond b [] all) [] told) kept)

-- ---- definitions

pub definition_noted :
    (h : Heads) (stated : Placed Name → CalledText) (d : DefinitionText) (f : Function) (told one two three four : Told) (other : Option Fault) → f ≡ function_of h.types d
    → other ≡ noted (written_faults (global_name d.head.name) [] 0 (function_written d)) None → one ≡ told_more h (result_faults h d.head.result.ty) [] told
    → two ≡ told_more h (flat_map (param_faults h) d.head.params) [] one
    → three ≡ told_more h (flat_map (block_faults h stated (things_of h.types f)) (blocks_in d)) (flat_map (wanted_by_block h) (blocks_in d)) two
    → four.fault ≡ with_other three.fault other → four.large ≡ three.large → four ≡ told_more h (function_faults h stated d) (wanted_by_definition h d) told
definition_noted h stated d f told one two three four other is apart first second third fault large =
    let result = result_faults h d.head.result.ty in
    let params = flat_map (param_faults h) d.head.params in
    let blocks = flat_map (block_faults h stated (things_of h.types (function_of h.types d))) (blocks_in d) in
    let wanted = flat_map (wanted_by_block h) (blocks_in d) in
    let names = written_faults (global_name d.head.name) [] 0 (function_written d) in
    let built : three ≡ told_more h blocks wanted two =
    third ∙ ap (λ (g : Function). told_more h (flat_map (block_faults h stated (things_of h.types g)) (blocks_in d)) wanted two) is in
    let behind : four ≡ told_more h names [] three = λ i. record { fault = (fault ∙ ap (with_other three.fault) apart ∙ noted_apart names three.fault) i; large = large i } in
    told_both h result (params ++ (blocks ++ names)) [] wanted told one four first
    (told_both h params (blocks ++ names) [] wanted one two four second (told_faults h blocks names wanted two three four built behind))

-- ---- globals

pub global_noted :
    (h : Heads) (w : GlobalBodyText) (told one two three four : Told) → one ≡ told_more h (type_faults h w.ty) [] told → two ≡ told_more h [] (so_many h w.ty (Some 1)) one
    → three ≡ told_more h (held_faults h (type_of w.ty) w.held) (wanted_at_start h w.held) two → four ≡ told_more h (align_faults w.align) [] three
    → four ≡ told_more h (global_var_faults h w) (wanted_by_global h w) told
global_noted h w told one two three four first second third fourth =
    let held = held_faults h (type_of w.ty) w.held in
    let start = wanted_at_start h w.held in
    let many = so_many h w.ty (Some 1) in
    told_both h (type_faults h w.ty) (held ++ align_faults w.align) [] (many ++ start) told one four first
    (told_both h [] (held ++ align_faults w.align) many start one two four second (told_faults h held (align_faults w.align) start two three four third fourth))

bit_is_small : (types : List NamedTy) → is_too_large (block_in (layout_of types (Int 1)) 1) ≡ false
bit_is_small types = ap (λ l. is_too_large (block_in l 1)) (at_int (layout_of_name (found_in types)) 1)

-- what is told of one of a type of these faults
abbrev told_of : Heads → Told → List Fault → ℕ → Ty → Told
told_of h t fs p ty = told_more h (fs ++ []) (if_faultless fs ((let one : Wanted = record { place = p; ty = ty; count = 1 } in one) ∷ []) ++ []) t

pub nothing_wanted : (h : Heads) (t : Told) → t ≡ told_more h (global_var_faults h no_global_body) (wanted_by_global h no_global_body) t
nothing_wanted h t =
    sym (ap (λ (b : Bool). let one : Told = record { fault = t.fault; large = with_place_if b 0 t.large } in one) (bit_is_small h.types))
    ∙ sym (ap (λ (fs : List Fault). told_of h t fs 0 (Int 1)) (kind.at_int (List Fault) (type_faults_at_level h) _))
    ∙ sym (ap (λ (p : ℕ). told_of h t (type_faults h no_type) p (Int 1)) (kind.at_int ℕ first_at_level _))
    ∙ sym (ap (λ (ty : Ty). told_of h t (type_faults h no_type) (first_of no_type) ty) (of_int _))

-- ---- items

-- an item more
pub items_more : {A : Type 0} (h : Heads) (f : A → List Fault) (g : A → List Wanted) (x : A) (xs : List A) (before now all : Told) → now ≡ told_more h (f x) (g x) before
    → told_more h (flat_map f (x ∷ xs)) (flat_map g (x ∷ xs)) before ≡ all → told_more h (flat_map f xs) (flat_map g xs) now ≡ all
items_more h f g x xs before now all is so_far =
    ap (told_more h (flat_map f xs) (flat_map g xs)) is ∙ sym (told_joined h (f x) (flat_map f xs) (g x) (flat_map g xs) before) ∙ so_far

-- ---- names of items

taken_front : (taken : List Name) (o : Option (Placed Name)) (xs : List (Placed Name)) → kept_faults taken (cons_option o xs) ≡ taken_faults taken o ++ kept_faults (taken_with taken o) xs
taken_front taken None xs = refl
taken_front taken (Some x) xs = refl

names_more : (p : Pick) (list : List Listed) (k : ℕ) (l : Listed) → k < length list → l ≡ get_or list k l
    → names_in p (drop k list) ≡ cons_option (picked p l) (names_in p (drop (k + 1) list))
names_more p list k l inside is = ap (names_in p) (drop_more list k l inside ∙ ap (λ (m : Listed). m ∷ drop (k + 1) list) (sym is))

pub more_taken :
    (p : Pick) (list : List Listed) (k : ℕ) (l : Listed) (taken next : List Name) (before now all : Told) → k < length list → l ≡ get_or list k l
    → next ≡ taken_with taken (picked p l) → now ≡ faults_more (taken_faults taken (picked p l)) before
    → faults_more (kept_faults taken (names_in p (drop k list))) before ≡ all → faults_more (kept_faults next (names_in p (drop (k + 1) list))) now ≡ all
more_taken p list k l taken next before now all inside is names kept so_far =
    let rest = names_in p (drop (k + 1) list) in
    ap (λ (ns : List Name). faults_more (kept_faults ns rest) now) names
    ∙ faults_both (taken_faults taken (picked p l)) (kept_faults (taken_with taken (picked p l)) rest) before now _ kept refl
    ∙ sym (ap (λ (fs : List Fault). faults_more fs before) (taken_front taken (picked p l) rest))
    ∙ sym (ap (λ (xs : List (Placed Name)). faults_more (kept_faults taken xs) before) (names_more p list k l inside is))
    ∙ so_far

due_front : (due : ℕ) (o : Option (Placed Name)) (xs : List (Placed Name)) → due_faults due (cons_option o xs) ≡ due_told due o ++ due_faults (due_with due o) xs
due_front due None xs = refl
due_front due (Some x) xs = refl

over_front : (due : ℕ) (o : Option (Placed Name)) (xs : List (Placed Name)) → due_over due (cons_option o xs) ≡ due_over (due_with due o) xs
over_front due None xs = refl
over_front due (Some x) xs = refl

pub more_due :
    (p : Pick) (list : List Listed) (k : ℕ) (l : Listed) (due next : ℕ) (before now all : Told) → k < length list → l ≡ get_or list k l
    → next ≡ due_with due (picked p l) → now ≡ faults_more (due_told due (picked p l)) before
    → faults_more (due_faults due (names_in p (drop k list))) before ≡ all → faults_more (due_faults next (names_in p (drop (k + 1) list))) now ≡ all
more_due p list k l due next before now all inside is counted kept so_far =
    let rest = names_in p (drop (k + 1) list) in
    ap (λ (n : ℕ). faults_more (due_faults n rest) now) counted
    ∙ faults_both (due_told due (picked p l)) (due_faults (due_with due (picked p l)) rest) before now _ kept refl
    ∙ sym (ap (λ (fs : List Fault). faults_more fs before) (due_front due (picked p l) rest))
    ∙ sym (ap (λ (xs : List (Placed Name)). faults_more (due_faults due xs) before) (names_more p list k l inside is))
    ∙ so_far

pub more_over :
    (p : Pick) (list : List Listed) (k : ℕ) (l : Listed) (due next all : ℕ) → k < length list → l ≡ get_or list k l → next ≡ due_with due (picked p l)
    → due_over due (names_in p (drop k list)) ≡ all → due_over next (names_in p (drop (k + 1) list)) ≡ all
more_over p list k l due next all inside is counted so_far =
    let rest = names_in p (drop (k + 1) list) in
    ap (λ (n : ℕ). due_over n rest) counted
    ∙ sym (over_front due (picked p l) rest)
    ∙ sym (ap (due_over due) (names_more p list k l inside is))
    ∙ so_far

-- names that are kept once are the names that are taken
same_kept : (xs : List (Placed Name)) (kept taken : List Name) → ((y : Name) → is_among y kept ≡ is_among y taken) → kept_faults kept xs ≡ twice_faults taken xs
same_kept [] kept taken alike = refl
same_kept (x ∷ xs) kept taken alike =
    ap (λ b. unless (not b) (at x reason.Twice) ++ kept_faults (with_name kept x.what) xs) (alike x.what)
    ∙ ap (λ (fs : List Fault). unless (not (is_among x.what taken)) (at x reason.Twice) ++ fs)
    (same_kept xs (with_name kept x.what) (x.what ∷ taken) (λ y. among_with y kept x.what ∙ ap (λ b. same_name y x.what || b) (alike y)))

pub twice_kept : (xs : List (Placed Name)) → kept_faults [] xs ≡ twice_faults [] xs
twice_kept xs = same_kept xs [] [] (λ y. refl)

-- where none is left
pub all_taken :
    (p : Pick) (list : List Listed) (k : ℕ) (taken : List Name) (told now : Told) → length list ≤ k
    → faults_more (kept_faults taken (names_in p (drop k list))) now ≡ faults_more (kept_faults [] (names_in p list)) told → now ≡ faults_more (twice_faults [] (names_in p list)) told
all_taken p list k taken told now past so_far =
    sym (ap (λ (left : List Listed). faults_more (kept_faults taken (names_in p left)) now) (drop_all k list past))
    ∙ so_far
    ∙ ap (λ (fs : List Fault). faults_more fs told) (twice_kept (names_in p list))

-- ---- the names of globals, of functions and of types

named_are : (items : List ItemText) → names_in pick.Named (filter_map listed items) ≡ filter_map global_written items
named_are [] = refl
named_are (item.Target ∷ items) = named_are items
named_are (item.Attributes at ∷ items) = named_are items
named_are (item.Metadata is_distinct meta ∷ items) = named_are items
named_are (item.Declaration d ∷ items) = by (is_dropped_name d.declared) (named_are items)
  where
    by : (b : Bool) → names_in pick.Named (filter_map listed items) ≡ filter_map global_written items
        → names_in pick.Named (cons_option (as_function (cond b None (Some (name_declared d.declared)))) (filter_map listed items))
        ≡ cons_option (cond b None (Some (name_declared d.declared))) (filter_map global_written items)
    by true more = more
    by false more = ap (λ (xs : List (Placed Name)). name_declared d.declared ∷ xs) more
named_are (item.Type x b ∷ items) = named_are items
named_are (item.Global g b ∷ items) = ap (λ (xs : List (Placed Name)). global_name g ∷ xs) (named_are items)
named_are (item.Definition d ∷ items) = ap (λ (xs : List (Placed Name)). global_name d.head.name ∷ xs) (named_are items)

globals_are : (items : List ItemText) → names_in pick.Globals (filter_map listed items) ≡ filter_map global_written (filter is_global items)
globals_are [] = refl
globals_are (item.Target ∷ items) = globals_are items
globals_are (item.Attributes at ∷ items) = globals_are items
globals_are (item.Metadata is_distinct meta ∷ items) = globals_are items
globals_are (item.Declaration d ∷ items) = by (is_dropped_name d.declared) (globals_are items)
  where
    by : (b : Bool) → names_in pick.Globals (filter_map listed items) ≡ filter_map global_written (filter is_global items)
        → names_in pick.Globals (cons_option (as_function (cond b None (Some (name_declared d.declared)))) (filter_map listed items)) ≡ filter_map global_written (filter is_global items)
    by true more = more
    by false more = more
globals_are (item.Type x b ∷ items) = globals_are items
globals_are (item.Global g b ∷ items) = ap (λ (xs : List (Placed Name)). global_name g ∷ xs) (globals_are items)
globals_are (item.Definition d ∷ items) = globals_are items

functions_are : (items : List ItemText) → names_in pick.Functions (filter_map listed items) ≡ filter_map global_written (filter (λ i. not (is_global i)) items)
functions_are [] = refl
functions_are (item.Target ∷ items) = functions_are items
functions_are (item.Attributes at ∷ items) = functions_are items
functions_are (item.Metadata is_distinct meta ∷ items) = functions_are items
functions_are (item.Declaration d ∷ items) = by (is_dropped_name d.declared) (functions_are items)
  where
    by : (b : Bool) → names_in pick.Functions (filter_map listed items) ≡ filter_map global_written (filter (λ i. not (is_global i)) items)
        → names_in pick.Functions (cons_option (as_function (cond b None (Some (name_declared d.declared)))) (filter_map listed items))
        ≡ cons_option (cond b None (Some (name_declared d.declared))) (filter_map global_written (filter (λ i. not (is_global i)) items))
    by true more = more
    by false more = ap (λ (xs : List (Placed Name)). name_declared d.declared ∷ xs) more
functions_are (item.Type x b ∷ items) = functions_are items
functions_are (item.Global g b ∷ items) = functions_are items
functions_are (item.Definition d ∷ items) = ap (λ (xs : List (Placed Name)). global_name d.head.name ∷ xs) (functions_are items)

types_are : (items : List ItemText) → names_in pick.Types (filter_map listed items) ≡ filter_map type_name items
types_are [] = refl
types_are (item.Target ∷ items) = types_are items
types_are (item.Attributes at ∷ items) = types_are items
types_are (item.Metadata is_distinct meta ∷ items) = types_are items
types_are (item.Declaration d ∷ items) = by (is_dropped_name d.declared) (types_are items)
  where
    by : (b : Bool) → names_in pick.Types (filter_map listed items) ≡ filter_map type_name items
        → names_in pick.Types (cons_option (as_function (cond b None (Some (name_declared d.declared)))) (filter_map listed items)) ≡ filter_map type_name items
    by true more = more
    by false more = more
types_are (item.Type x b ∷ items) = ap (λ (xs : List (Placed Name)). x ∷ xs) (types_are items)
types_are (item.Global g b ∷ items) = types_are items
types_are (item.Definition d ∷ items) = types_are items

due_joined : (xs ys : List (Placed Name)) (due : ℕ) → due_faults due (xs ++ ys) ≡ due_faults due xs ++ due_faults (due_over due xs) ys
due_joined [] ys due = refl
due_joined (x ∷ xs) ys due =
    let next = due_after due x.what in
    ap (λ (fs : List Fault). number_faults due x x.what ++ fs) (due_joined xs ys next)
    ∙ sym (append_assoc (number_faults due x x.what) (due_faults next xs) (due_faults (due_over next xs) ys))

-- of globals and functions
globals_noted :
    (items : List ItemText) (list : List Listed) (told one two three : Told) (due : ℕ) → list ≡ filter_map listed items
    → one ≡ faults_more (twice_faults [] (names_in pick.Named list)) told → two ≡ faults_more (due_faults 0 (names_in pick.Globals list)) one
    → due ≡ due_over 0 (names_in pick.Globals list) → three ≡ faults_more (due_faults due (names_in pick.Functions list)) two → three ≡ faults_more (global_name_faults items) told
globals_noted items list told one two three due is first second counted third =
    let globals = names_in pick.Globals list in
    let functions = names_in pick.Functions list in
    let behind : three ≡ faults_more (due_faults 0 (globals ++ functions)) one =
    faults_both (due_faults 0 globals) (due_faults (due_over 0 globals) functions) one two three second (third ∙ ap (λ (n : ℕ). faults_more (due_faults n functions) two) counted)
    ∙ sym (ap (λ (fs : List Fault). faults_more fs one) (due_joined globals functions 0)) in
    faults_both (twice_faults [] (names_in pick.Named list)) (due_faults 0 (globals ++ functions)) told one three first behind
    ∙ ap (λ (l : List Listed). faults_more (twice_faults [] (names_in pick.Named l) ++ due_faults 0 (names_in pick.Globals l ++ names_in pick.Functions l)) told) is
    ∙ ap (λ (xs : List (Placed Name)). faults_more (twice_faults [] xs ++ due_faults 0 (names_in pick.Globals (filter_map listed items) ++ names_in pick.Functions (filter_map listed items))) told) (named_are items)
    ∙ ap (λ (xs : List (Placed Name)). faults_more (twice_faults [] (filter_map global_written items) ++ due_faults 0 (xs ++ names_in pick.Functions (filter_map listed items))) told) (globals_are items)
    ∙ ap (λ (xs : List (Placed Name)). faults_more (twice_faults [] (filter_map global_written items) ++ due_faults 0 (filter_map global_written (filter is_global items) ++ xs)) told) (functions_are items)

types_noted :
    (items : List ItemText) (list : List Listed) (told one two : Told) → list ≡ filter_map listed items → one ≡ faults_more (twice_faults [] (names_in pick.Types list)) told
    → two ≡ faults_more (due_faults 0 (names_in pick.Types list)) one → two ≡ faults_more (type_name_faults items) told
types_noted items list told one two is first second =
    faults_both (twice_faults [] (names_in pick.Types list)) (due_faults 0 (names_in pick.Types list)) told one two first second
    ∙ ap (λ (xs : List (Placed Name)). faults_more (twice_faults [] xs ++ due_faults 0 xs) told) (ap (names_in pick.Types) is ∙ types_are items)

pub list_noted :
    (items : List ItemText) (list : List Listed) (told one two three four five : Told) (due : ℕ) → list ≡ filter_map listed items
    → one ≡ faults_more (twice_faults [] (names_in pick.Named list)) told → two ≡ faults_more (due_faults 0 (names_in pick.Globals list)) one
    → due ≡ due_over 0 (names_in pick.Globals list) → three ≡ faults_more (due_faults due (names_in pick.Functions list)) two
    → four ≡ faults_more (twice_faults [] (names_in pick.Types list)) three → five ≡ faults_more (due_faults 0 (names_in pick.Types list)) four
    → five ≡ faults_more (global_name_faults items ++ type_name_faults items) told
list_noted items list told one two three four five due is first second counted third fourth fifth =
    faults_both (global_name_faults items) (type_name_faults items) told three five (globals_noted items list told one two three due is first second counted third)
    (types_noted items list three four five is fourth fifth)

-- ---- the whole

abbrev pub none_told : Told
none_told = record { fault = None; large = None }

pub all_noted :
    (h : Heads) (stated : Placed Name → CalledText) (params : Placed Name → DeclaredText) (w : ModuleText) (start one two : Told) → h ≡ heads_of (module_of params w)
    → start ≡ none_told → one ≡ told_more h (flat_map (item_faults h stated params) w.items) (flat_map (wanted_by_item h) w.items) start
    → two ≡ faults_more (global_name_faults w.items ++ type_name_faults w.items) one
    → two ≡ record { fault = noted (faults_of stated params w) None; large = noted_large h (flat_map (wanted_by_item h) w.items) None }
all_noted h stated params w start one two is none first second =
    let names = global_name_faults w.items ++ type_name_faults w.items in
    let wanted = flat_map (wanted_by_item h) w.items in
    told_faults h (flat_map (item_faults h stated params) w.items) names wanted start one two first second
    ∙ ap (told_more h (flat_map (item_faults h stated params) w.items ++ names) wanted) none
    ∙ ap (λ (g : Heads). let told : Told = record { fault = noted (flat_map (item_faults g stated params) w.items ++ names) None; large = noted_large h wanted None } in told) is
