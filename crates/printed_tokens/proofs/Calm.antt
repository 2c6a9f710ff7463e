-- Which symbols don't stand in types, constants, initialisers, values, alignments and attributes: `void`, `unnamed_addr` and text that isn't
-- kept in none, and no opening parenthesis in types.
use Rattle.std.proofs.Common.{◌≡◌, ℕ, Bool, true, false, nat_eq, List, [], ◌∷◌, ◌++◌, map, Option, Some, None, refl, ap, sym, subst}
use Rattle.std.specs.List.{AllByRecursion, flat_map}
use Rattle.ir_lexer.specs.declared.token.Number.{Number}
use Rattle.ir_types.specs.declared.names.Name.{Name}
use Rattle.module_grammar.proofs.ConstFolds as const_tree
use Rattle.module_grammar.proofs.InitFolds as init_tree
use Rattle.module_grammar.proofs.TypeFolds as type_tree
use Rattle.module_grammar.specs.Attributes.{param_attribute}
use Rattle.module_grammar.specs.Constants.{const, global_name, inbounds, init, inits, int, operand, tag, typed_const, typed_init, value}
use Rattle.module_grammar.specs.Lines.{align}
use Rattle.module_grammar.specs.Listed.{further, listed}
use Rattle.module_grammar.specs.Symbols.{Symbol, Star, close_brace, close_bracket, close_paren, comma, kind_of, open_paren, unnamed_addr, void}
use Rattle.module_grammar.specs.Texts.{is_balanced}
use Rattle.module_grammar.specs.Types.{ty, types}
use Rattle.module_grammar.specs.declared.attributes.ParamAttributeText.{ParamAttributeText}
use Rattle.module_grammar.specs.declared.attributes.ParamAttributeText.TheVariants as of_param
use Rattle.module_grammar.specs.declared.constants.ConstText.{ConstText}
use Rattle.module_grammar.specs.declared.constants.ConstText as const_text
use Rattle.module_grammar.specs.declared.constants.GlobalNameText.{GlobalNameText}
use Rattle.module_grammar.specs.declared.constants.GlobalNameText.TheVariants as global
use Rattle.module_grammar.specs.declared.constants.InitText.{InitText}
use Rattle.module_grammar.specs.declared.constants.IntText.{IntText}
use Rattle.module_grammar.specs.declared.constants.IntText.TheVariants as integer
use Rattle.module_grammar.specs.declared.constants.OperandText.{OperandText}
use Rattle.module_grammar.specs.declared.constants.Tag.{Tag}
use Rattle.module_grammar.specs.declared.constants.Tag.TheVariants as tags
use Rattle.module_grammar.specs.declared.constants.ValueText.{ValueText}
use Rattle.module_grammar.specs.declared.constants.ValueText.TheVariants as value_text
use Rattle.module_grammar.specs.declared.places.Placed.{Placed}
use Rattle.module_grammar.specs.declared.types.TypeText.{TypeText}
use Rattle.module_grammar.specs.declared.types.TypeText as type_text
use Rattle.named_modules.proofs.Lists.{all_append}

-- it is no `void`, no `unnamed_addr`, and no text that isn't kept
abbrev pub IsCalm : Symbol → Type 0
IsCalm s = (nat_eq (kind_of s) (kind_of void) ≡ false) × (nat_eq (kind_of s) (kind_of unnamed_addr) ≡ false) × (is_balanced s ≡ false)

abbrev pub AreCalm : List Symbol → Type 0
AreCalm = AllByRecursion IsCalm

-- nor is it an opening parenthesis
abbrev pub IsOfTypes : Symbol → Type 0
IsOfTypes s = IsCalm s × (nat_eq (kind_of s) (kind_of open_paren) ≡ false)

clash : {b : Bool} → b ≡ false → b ≡ true → ⊥
clash is_not is = cc

pub not_void : (s : Symbol) → IsCalm s → s ≡ void → ⊥
not_void s calm is = clash calm.0 (ap (λ x. nat_eq (kind_of x) (kind_of void)) is)

pub not_addr : (s : Symbol) → IsCalm s → kind_of s ≡ kind_of unnamed_addr → ⊥
not_addr s calm is = clash calm.1 (ap (λ k. nat_eq k (kind_of unnamed_addr)) is)

-- ---- lists with commas

module _ (P : Symbol → Type 0) (comma_is : P comma) where
  pub further_all : (items : List (List Symbol)) → AllByRecursion (AllByRecursion P) items → AllByRecursion P (further items)
  further_all [] h = tt
  further_all (item ∷ items) h = (comma_is, all_append P item (further items) h.0 (further_all items h.1))

  pub listed_all : (items : List (List Symbol)) → AllByRecursion (AllByRecursion P) items → AllByRecursion P (listed items)
  listed_all [] h = tt
  listed_all (item ∷ items) h = all_append P item (further items) h.0 (further_all items h.1)

pub map_all : {X Y : Type 0} (P : X → Type 0) (Q : Y → Type 0) (f : X → Y) → ((x : X) → P x → Q (f x)) → (xs : List X) → AllByRecursion P xs → AllByRecursion Q (map f xs)
map_all P Q f of [] h = tt
map_all P Q f of (x ∷ xs) h = (of x h.0, map_all P Q f of xs h.1)

pub for_all : {X : Type 0} (P : X → Type 0) → ((x : X) → P x) → (xs : List X) → AllByRecursion P xs
for_all P each [] = tt
for_all P each (x ∷ xs) = (each x, for_all P each xs)

pub calm_all : (ss : List Symbol) → AllByRecursion IsOfTypes ss → AreCalm ss
calm_all [] h = tt
calm_all (s ∷ ss) h = (h.0.0, calm_all ss h.1)

-- ---- types

abbrev OfTypes : TypeText → Type 0
OfTypes t = AllByRecursion IsOfTypes (ty t)

types_all : (ts : List TypeText) → AllByRecursion OfTypes ts → AllByRecursion IsOfTypes (types ts)
types_all ts h = listed_all IsOfTypes ((refl, refl, refl), refl) (map ty ts) (map_all OfTypes (AllByRecursion IsOfTypes) ty (λ t is. is) ts h)

int_type : (width : Placed ℕ) → OfTypes (type_text.Int width)
int_type width = subst (AllByRecursion IsOfTypes) (sym (type_tree.at_int width)) (((refl, refl, refl), refl), tt)

named_type : (name : Placed Name) → OfTypes (type_text.Named name)
named_type name = subst (AllByRecursion IsOfTypes) (sym (type_tree.at_named name)) (((refl, refl, refl), refl), tt)

pointer_type : (at : ℕ) (t : TypeText) → OfTypes t → OfTypes (type_text.Ptr at t)
pointer_type at t h = subst (AllByRecursion IsOfTypes) (sym (type_tree.at_ptr at t)) (all_append IsOfTypes (ty t) (Star at ∷ []) h (((refl, refl, refl), refl), tt))

array_type : (at : ℕ) (count : Placed Number) (t : TypeText) → OfTypes t → OfTypes (type_text.Array at (count, t))
array_type at count t h =
    subst (AllByRecursion IsOfTypes) (sym (type_tree.at_array at count t)) (
      ((refl, refl, refl), refl),
      (((refl, refl, refl), refl), (((refl, refl, refl), refl), all_append IsOfTypes (ty t) (close_bracket ∷ []) h (((refl, refl, refl), refl), tt))),
    )

struct_type : (at : ℕ) (ts : List TypeText) → AllByRecursion OfTypes ts → OfTypes (type_text.Struct at ts)
struct_type at ts h =
    subst (AllByRecursion IsOfTypes) (sym (type_tree.at_struct at ts))
    (((refl, refl, refl), refl), all_append IsOfTypes (types ts) (close_brace ∷ []) (types_all ts h) (((refl, refl, refl), refl), tt))

pub of_types : (t : TypeText) → AllByRecursion IsOfTypes (ty t)
of_types = type_tree.by_parts OfTypes int_type named_type pointer_type array_type struct_type

pub calm_type : (t : TypeText) → AreCalm (ty t)
calm_type t = calm_all (ty t) (of_types t)

-- ---- constants

pub calm_int : (i : IntText) → IsCalm (int i)
calm_int (integer.Number n) = (refl, refl, refl)
calm_int (integer.Truth b) = (refl, refl, refl)

pub calm_global : (g : GlobalNameText) → IsCalm (global_name g)
calm_global (global.Plain name) = (refl, refl, refl)
calm_global (global.Debug name) = (refl, refl, refl)

pub calm_inbounds : (set : Bool) → AreCalm (inbounds set)
calm_inbounds true = ((refl, refl, refl), tt)
calm_inbounds false = tt

abbrev CalmConst : ConstText → Type 0
CalmConst c = AreCalm (const c)

calm_typed : (c : TypeText × ConstText) → CalmConst c.1 → AreCalm (typed_const c)
calm_typed c h = all_append IsCalm (ty c.0) (const c.1) (calm_type c.0) h

element_const : (at : ℕ) (set : Bool) (of base_ty : TypeText) (base : ConstText) (indices : List (TypeText × ConstText))
    → CalmConst base → const_tree.EachOf CalmConst indices → CalmConst (const_text.Element at set (of, base_ty, base, indices))
element_const at set of base_ty base indices h each =
    let parts = further_all IsCalm (refl, refl, refl) (map typed_const indices)
    (map_all (λ (c : TypeText × ConstText). CalmConst c.1) AreCalm typed_const calm_typed indices each) in
    let end = all_append IsCalm (further (map typed_const indices)) (close_paren ∷ []) parts ((refl, refl, refl), tt) in
    let from_base = all_append IsCalm (ty base_ty) (const base ++ (further (map typed_const indices) ++ (close_paren ∷ []))) (calm_type base_ty)
    (all_append IsCalm (const base) (further (map typed_const indices) ++ (close_paren ∷ [])) h end) in
    subst AreCalm (sym (const_tree.at_element at set of base_ty base indices)) (
      (refl, refl, refl),
      all_append IsCalm (inbounds set) _ (calm_inbounds set) (
        (refl, refl, refl),
        all_append IsCalm (ty of) _ (calm_type of) ((refl, refl, refl), from_base),
      ),
    )

cast_const : (at : ℕ) (from : TypeText) (c : ConstText) (target : TypeText) → CalmConst c → CalmConst (const_text.Cast at (from, c, target))
cast_const at from c target h =
    subst AreCalm (sym (const_tree.at_cast at from c target)) (
      (refl, refl, refl),
      (
        (refl, refl, refl),
        all_append IsCalm (ty from) _ (calm_type from)
            (all_append IsCalm (const c) _ h ((refl, refl, refl), all_append IsCalm (ty target) (close_paren ∷ []) (calm_type target) ((refl, refl, refl), tt))),
      ),
    )

pub calm_const : (c : ConstText) → AreCalm (const c)
calm_const =
    const_tree.by_parts CalmConst
    (λ i. subst AreCalm (sym (const_tree.at_int i)) (calm_int i, tt))
    (λ at. subst AreCalm (sym (const_tree.at_null at)) ((refl, refl, refl), tt))
    (subst AreCalm (sym const_tree.at_undef) ((refl, refl, refl), tt))
    (λ g. subst AreCalm (sym (const_tree.at_global g)) (calm_global g, tt))
    element_const cast_const

-- ---- initialisers

abbrev CalmInit : InitText → Type 0
CalmInit i = AreCalm (init i)

calm_inits : (parts : List (TypeText × InitText)) → init_tree.EachOf CalmInit parts → AreCalm (inits parts)
calm_inits parts each =
    listed_all IsCalm (refl, refl, refl) (map typed_init parts)
    (map_all (λ (i : TypeText × InitText). CalmInit i.1) AreCalm typed_init (λ i h. all_append IsCalm (ty i.0) (init i.1) (calm_type i.0) h) parts each)

pub calm_init : (i : InitText) → AreCalm (init i)
calm_init =
    init_tree.by_parts CalmInit
    (λ c. subst AreCalm (sym (init_tree.at_const c)) (calm_const c))
    (subst AreCalm (sym init_tree.at_zero) ((refl, refl, refl), tt))
    (λ bytes. subst AreCalm (sym (init_tree.at_bytes bytes)) ((refl, refl, refl), ((refl, refl, refl), tt)))
    (λ at parts each. subst AreCalm (sym (init_tree.at_array at parts)) ((refl, refl, refl), all_append IsCalm (inits parts) (close_bracket ∷ []) (calm_inits parts each) ((refl, refl, refl), tt)))
    (λ at parts each. subst AreCalm (sym (init_tree.at_struct at parts)) ((refl, refl, refl), all_append IsCalm (inits parts) (close_brace ∷ []) (calm_inits parts each) ((refl, refl, refl), tt)))

-- ---- values and what stands beside them

calm_tag : (t : Tag) → IsCalm (tag t)
calm_tag tags.Old = (refl, refl, refl)
calm_tag tags.Ghost = (refl, refl, refl)

pub calm_value : (v : ValueText) → AreCalm (value v)
calm_value (value_text.Const c) = calm_const c
calm_value (value_text.Local name) = ((refl, refl, refl), tt)
calm_value (value_text.Tagged t name) = (calm_tag t, ((refl, refl, refl), tt))

pub calm_operand : (o : OperandText) → AreCalm (operand o)
calm_operand o = all_append IsCalm (ty o.ty) (value o.value) (calm_type o.ty) (calm_value o.value)

pub calm_align : (a : Option (Placed Number)) → AreCalm (align a)
calm_align None = tt
calm_align (Some n) = ((refl, refl, refl), ((refl, refl, refl), ((refl, refl, refl), tt)))

calm_attribute : (a : ParamAttributeText) → AreCalm (param_attribute a)
calm_attribute (of_param.Extension word) = ((refl, refl, refl), tt)
calm_attribute of_param.Word = ((refl, refl, refl), tt)
calm_attribute of_param.Access = ((refl, refl, refl), tt)
calm_attribute (of_param.Sized n) = ((refl, refl, refl), ((refl, refl, refl), ((refl, refl, refl), ((refl, refl, refl), tt))))
calm_attribute (of_param.Align n) = ((refl, refl, refl), ((refl, refl, refl), tt))

pub calm_attributes : (xs : List ParamAttributeText) → AreCalm (flat_map param_attribute xs)
calm_attributes [] = tt
calm_attributes (x ∷ xs) = all_append IsCalm (param_attribute x) (flat_map param_attribute xs) (calm_attribute x) (calm_attributes xs)
