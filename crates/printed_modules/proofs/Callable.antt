-- What is known of a function that is called: its name, and what a call states of it beside its result.
use Rattle.std.proofs.Common.{◌≡◌, ◌∙◌, Bool, true, false, ◌&&◌, cond, List, [], ◌∷◌, ◌++◌, map, Option, Some, None, refl, sym, ap, subst}
use Rattle.std.specs.List.{AllByRecursion, Contains}
use Rattle.std.proofs.Math.Logic.{⊎_elim}
use Rattle.std.proofs.lemmas.List.{map-append}
use Rattle.std.proofs.lemmas.List.Elements.{Contains-append_right}
use Rattle.ir_core.specs.declared.functions.Function.{Function}
use Rattle.ir_core.specs.declared.modules.Declaration.{Declaration}
use Rattle.ir_core.specs.declared.modules.GlobalVar.{GlobalVar}
use Rattle.ir_core.specs.declared.modules.Module.{Module}
use Rattle.ir_core.specs.Functions.{function_names, is_debug}
use Rattle.ir_core.specs.Order.{AreNew}
use Rattle.ir_core.specs.Ranges.{IsNameInRange}
use Rattle.ir_core.specs.Typing.{Signature, declared_signature, defined_signature, signatures_of}
use Rattle.ir_core.specs.WellFormed.{global_names}
use Rattle.ir_printer.specs.Printed.{called_in, takes_further}
use Rattle.ir_types.specs.declared.names.Name.{Name}
use Rattle.ir_types.specs.NameLaws.{left_true, right_true, same_name_refl, same_name_true}
use Rattle.ir_types.specs.Same.{same_name}
use Rattle.named_modules.proofs.Lists.{AreDistinct, all_append, contains_behind, contains_either, contains_here, look_finds, names_of_pairs, new_distinct}
use Rattle.printed_modules.proofs.Each.{all_to, all_to_mapped, mapped_from, mapped_there}
use Rattle.printed_modules.proofs.Fit.{FitsDeclaration, StatesAs}

-- ---- names with signatures

abbrev defined_pair : Function → Name × Signature
defined_pair f = (f.name, defined_signature f)

abbrev declared_pair : Declaration → Name × Signature
declared_pair d = (d.name, declared_signature d)

defined_names : (fs : List Function) → names_of_pairs (map defined_pair fs) ≡ map (λ (f : Function). f.name) fs
defined_names [] = refl
defined_names (f ∷ fs) = ap (λ ns. f.name ∷ ns) (defined_names fs)

declared_names : (ds : List Declaration) → names_of_pairs (map declared_pair ds) ≡ map (λ (d : Declaration). d.name) ds
declared_names [] = refl
declared_names (d ∷ ds) = ap (λ ns. d.name ∷ ns) (declared_names ds)

distinct_behind : {A : Type 0} (xs ys : List A) → AreDistinct (xs ++ ys) → AreDistinct ys
distinct_behind [] ys h = h
distinct_behind (x ∷ xs) ys h = distinct_behind xs ys h.1

some_same : {A : Type 0} (a b : A) → Some a ≡ Some b → a ≡ b
some_same a b e = cc

-- ---- the declaration that a call looks up

abbrev Finds : List Declaration → Name → Option Declaration → Type 0
Finds ds x None = AllByRecursion (λ (d : Declaration). takes_further x d ≡ false) ds
Finds ds x (Some d) = Contains ds d × (takes_further x d ≡ true)

finds : (x : Name) (ds : List Declaration) → Finds ds x (called_in ds x)
finds x [] = tt
finds x (d ∷ ds) = by (takes_further x d) refl (called_in ds x) (finds x ds)
  where
    by : (b : Bool) → takes_further x d ≡ b → (o : Option Declaration) → Finds ds x o → Finds (d ∷ ds) x (cond b (Some d) o)
    by true is o rest = (contains_here d ds, is)
    by false is None rest = (is, rest)
    by false is (Some e) rest = (contains_behind d e ds rest.0, rest.1)

no_further : (b : Bool) (x : Name) → (b && same_name x x) ≡ false → b ≡ false
no_further true x e = sym (same_name_refl x) ∙ e
no_further false x e = refl

-- ---- what is known of each

-- a name that a call may have
pub record IsCallee (x : Name) : Type 0 where
  pub name : IsNameInRange x
  pub plain : is_debug x ≡ false

module _
    (m : Module) (names : AreNew [] (global_names m)) (declared : AllByRecursion (FitsDeclaration m) m.declarations)
    (defined : AllByRecursion (λ (f : Function). IsCallee f.name) m.functions)
  where
    distinct : AreDistinct (names_of_pairs (signatures_of m))
    distinct =
        let globals = map (λ (g : GlobalVar). g.name) m.globals in
        let others = function_names m ++ map (λ (d : Declaration). d.name) m.declarations in
        let same : names_of_pairs (signatures_of m) ≡ others =
        map-append (λ (s : Name × Signature). s.0) (map defined_pair m.functions) (map declared_pair m.declarations)
        ∙ ap (λ ns. ns ++ names_of_pairs (map declared_pair m.declarations)) (defined_names m.functions)
        ∙ ap (λ ns. function_names m ++ ns) (declared_names m.declarations) in
        subst AreDistinct (sym same) (distinct_behind globals others (new_distinct [] (global_names m) names))

    -- a name has one signature
    one_signature : (x : Name) (s t : Signature) → Contains (signatures_of m) (x, s) → Contains (signatures_of m) (x, t) → s ≡ t
    one_signature x s t one other =
        some_same s t (sym (look_finds (signatures_of m) x s distinct one) ∙ look_finds (signatures_of m) x t distinct other)

    of_declaration : (d : Declaration) → FitsDeclaration m d → IsCallee d.name
    of_declaration d fits = record { name = fits.name; plain = fits.plain }

    each_callee : AllByRecursion (λ (p : Name × Signature). IsCallee p.0) (signatures_of m)
    each_callee =
        all_append (λ (p : Name × Signature). IsCallee p.0) (map defined_pair m.functions) (map declared_pair m.declarations)
        (all_to_mapped (λ (p : Name × Signature). IsCallee p.0) defined_pair m.functions defined)
        (all_to_mapped (λ (p : Name × Signature). IsCallee p.0) declared_pair m.declarations (over m.declarations declared))
      where
        over : (ds : List Declaration) → AllByRecursion (FitsDeclaration m) ds → AllByRecursion (λ (d : Declaration). IsCallee d.name) ds
        over [] all = tt
        over (d ∷ ds) all = (of_declaration d all.0, over ds all.1)

    pub is_callee : (x : Name) (s : Signature) → Contains (signatures_of m) (x, s) → IsCallee x
    is_callee x s there = all_to (λ (p : Name × Signature). IsCallee p.0) (signatures_of m) each_callee (x, s) there

    -- a definition takes no further arguments, nor does a declaration that isn't found so
    not_further : (x : Name) (s : Signature) → Finds m.declarations x None → Contains (signatures_of m) (x, s) → s.variadic ≡ false
    not_further x s none there =
        ⊎_elim
        (λ h. let f = mapped_from defined_pair m.functions (x, s) h in sym (ap (λ (p : Name × Signature). p.1.variadic) f.same))
        (λ h.
        let d = mapped_from declared_pair m.declarations (x, s) h in
        let takes = all_to (λ (d : Declaration). takes_further x d ≡ false) m.declarations none d.own d.there in
        let same : d.own.name ≡ x = ap (λ (p : Name × Signature). p.0) d.same in
        sym (ap (λ (p : Name × Signature). p.1.variadic) d.same)
        ∙ no_further d.own.variadic x (subst (λ n. (d.own.variadic && same_name x n) ≡ false) same takes))
        (contains_either (map defined_pair m.functions) (map declared_pair m.declarations) (x, s) there)

    states : (o : Option Declaration) (x : Name) (s : Signature) → Finds m.declarations x o → Contains (signatures_of m) (x, s) → StatesAs m o s
    states None x s none there = not_further x s none there
    states (Some d) x s found there =
        let same : x ≡ d.name = same_name_true x d.name (right_true d.variadic (same_name x d.name) found.1) in
        let declares : Contains (signatures_of m) (declared_pair d) =
        Contains-append_right (map defined_pair m.functions) (map declared_pair m.declarations) (declared_pair d) (mapped_there declared_pair m.declarations d found.0) in (
          one_signature d.name s (declared_signature d) (subst (λ n. Contains (signatures_of m) (n, s)) same there) declares,
          left_true d.variadic (same_name x d.name) found.1,
          (all_to (FitsDeclaration m) m.declarations declared d found.0).params,
        )

    pub states_as : (x : Name) (s : Signature) → Contains (signatures_of m) (x, s) → StatesAs m (called_in m.declarations x) s
    states_as x s there = states (called_in m.declarations x) x s (finds x m.declarations) there
