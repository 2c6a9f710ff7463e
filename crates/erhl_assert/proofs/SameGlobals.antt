-- The test of globals is true exactly of equal ones, and that of declarations exactly where one says what the other does.
use Rattle.std.proofs.Common.{◌≡◌, ◌∙◌, ℕ, zero, suc, Bool, true, ◌&&◌, List, [], ◌∷◌, map, Option, None, Some, refl, sym, ap, subst}
use Rattle.std.specs.Cmp.{both_ways}
use Rattle.std.specs.Prelude.{◌↔◌, IsTrue, nat_eq}
use Rattle.ir_types.specs.declared.ty.Ty.{Ty}
use Rattle.ir_types.specs.NameLaws.{left_true, right_true, all_true, same_list_true, same_list_refl, same_nat_true, same_nat_refl, same_name_true, same_name_refl}
use Rattle.ir_types.specs.Same.{same_list, same_name, same_ty}
use Rattle.ir_types.proofs.SameLaws.{same_ty_true, same_ty_refl}
use Rattle.ir_core.specs.declared.functions.Extensions.{Extensions}
use Rattle.ir_core.specs.declared.modules.Declaration.{Declaration}
use Rattle.ir_core.specs.declared.modules.DeclaredParam.{DeclaredParam}
use Rattle.ir_core.specs.declared.modules.GlobalVar.{GlobalVar}
use Rattle.ir_core.specs.declared.modules.Init.{Init, out-Init, roll-Init, roll-out-Init, map-Init, ind-Init}
use Rattle.ir_core.specs.declared.modules.Init as init
use Rattle.ir_core.specs.declared.modules.Init.TheOpen.{Init-F}
use Rattle.ir_core.specs.declared.modules.Init.TheOpen as level
use Rattle.ir_core.specs.declared.modules.Init.TheViews.{rolls-Const, rolls-Zero, rolls-Bytes, rolls-Array, rolls-Struct, outs-Const, outs-Zero, outs-Bytes, outs-Array, outs-Struct}
use Rattle.ir_core.specs.declared.modules.Linkage.{Linkage}
use Rattle.ir_core.specs.declared.modules.Linkage.TheVariants as linkage
use Rattle.ir_core.specs.declared.operands.Const.{Const}
use Rattle.ir_core.specs.Modules.{linkage_code}
use Rattle.ir_core.specs.Same.{same_bool, same_align}
use Rattle.ir_core.proofs.Inits as fold
pub use Rattle.ir_core.proofs.SameLaws.{same_bool_true, same_bool_refl}
use Rattle.ir_core.proofs.SameLaws.{same_const_true, same_const_refl, same_align_true, same_align_refl}
use Rattle.erhl_assert.specs.Globals.{same_parts, same_init_level, same_init, same_start, same_linkage, same_global, same_extensions, same_declared_param, same_declaration, IsDeclaredAs, AreDeclaredAlike}

-- ---- initialisers

abbrev test : Init-F (Init → Bool) → Init → Bool
test = λ tests i. same_init_level tests (out-Init i)

abbrev tests_of : List (Ty × Init) → List (Ty × (Init → Bool))
tests_of = map (λ p. (p.0, same_init p.1))

-- the test is true of it, and of nothing else
abbrev IsExact : Init → Type 0
IsExact a = ((b : Init) → same_init a b ≡ true → a ≡ b) × (same_init a a ≡ true)

abbrev parts_of : List (Ty × ((i : Init) × IsExact i)) → List (Ty × Init)
parts_of = map (λ e. (e.0, e.1.0))

parts_true : (es : List (Ty × ((i : Init) × IsExact i))) (ps : List (Ty × Init)) → same_parts (tests_of (parts_of es)) ps ≡ true → parts_of es ≡ ps
parts_true [] [] h = refl
parts_true [] (p ∷ ps) h = cc
parts_true (e ∷ es) [] h = cc
parts_true (e ∷ es) (p ∷ ps) h =
    let t = same_ty e.0 p.0 in
    let c = same_init e.1.0 p.1 in
    let r = same_parts (tests_of (parts_of es)) ps in
    let first : (t && c) ≡ true = left_true (t && c) r h in
    let types : e.0 ≡ p.0 = same_ty_true e.0 p.0 (left_true t c first) in
    let inits : e.1.0 ≡ p.1 = e.1.1.0 p.1 (right_true t c first) in
    let more : parts_of es ≡ ps = parts_true es ps (right_true (t && c) r h) in
    λ k. (types k, inits k) ∷ more k

parts_refl : (es : List (Ty × ((i : Init) × IsExact i))) → same_parts (tests_of (parts_of es)) (parts_of es) ≡ true
parts_refl [] = refl
parts_refl (e ∷ es) = all_true (all_true (same_ty_refl e.0) e.1.1.1) (parts_refl es)

const_level : (c : Const) (y : Init-F Init) → same_init_level (level.Const c) y ≡ true → init.Const c ≡ roll-Init y
const_level c (level.Const d) h = ap init.Const (same_const_true c d h) ∙ sym (rolls-Const d)
const_level c y h = cc

zero_level : (y : Init-F Init) → same_init_level level.Zero y ≡ true → init.Zero ≡ roll-Init y
zero_level level.Zero h = sym rolls-Zero
zero_level y h = cc

bytes_level : (a : List ℕ) (y : Init-F Init) → same_init_level (level.Bytes a) y ≡ true → init.Bytes a ≡ roll-Init y
bytes_level a (level.Bytes b) h = ap init.Bytes (same_list_true nat_eq same_nat_true a b h) ∙ sym (rolls-Bytes b)
bytes_level a y h = cc

array_level : (es : List (Ty × ((i : Init) × IsExact i))) (y : Init-F Init) → same_init_level (level.Array (tests_of (parts_of es))) y ≡ true → init.Array (parts_of es) ≡ roll-Init y
array_level es (level.Array b) h = ap init.Array (parts_true es b h) ∙ sym (rolls-Array b)
array_level es y h = cc

struct_level : (es : List (Ty × ((i : Init) × IsExact i))) (y : Init-F Init) → same_init_level (level.Struct (tests_of (parts_of es))) y ≡ true → init.Struct (parts_of es) ≡ roll-Init y
struct_level es (level.Struct b) h = ap init.Struct (parts_true es b h) ∙ sym (rolls-Struct b)
struct_level es y h = cc

-- an initialiser of this level, by what the test says there
exact : (a : Init) (tests : Init-F (Init → Bool)) (own : Init-F Init) → same_init a ≡ test tests → out-Init a ≡ own
    → ((y : Init-F Init) → same_init_level tests y ≡ true → a ≡ roll-Init y) → same_init_level tests own ≡ true → IsExact a
exact a tests own e out only itself = (
  λ b h. only (out-Init b) (sym (ap (λ (f : Init → Bool). f b) e) ∙ h) ∙ roll-out-Init b,
  ap (λ (f : Init → Bool). f a) e ∙ ap (same_init_level tests) out ∙ itself,
)

at_level : (y : Init-F ((i : Init) × IsExact i)) → IsExact (roll-Init (map-Init ((i : Init) × IsExact i) Init (λ e. e.0) y))
at_level (level.Const c) =
    subst IsExact (sym (rolls-Const c)) (exact (init.Const c) (level.Const c) (level.Const c) (fold.at_const (Init → Bool) test c) (outs-Const c) (const_level c) (same_const_refl c))
at_level level.Zero = subst IsExact (sym rolls-Zero) (exact init.Zero level.Zero level.Zero (fold.at_zero (Init → Bool) test) outs-Zero zero_level refl)
at_level (level.Bytes a) =
    subst IsExact (sym (rolls-Bytes a))
    (exact (init.Bytes a) (level.Bytes a) (level.Bytes a) (fold.at_bytes (Init → Bool) test a) (outs-Bytes a) (bytes_level a) (same_list_refl nat_eq same_nat_refl a))
at_level (level.Array es) =
    subst IsExact (sym (rolls-Array (parts_of es)))
    (exact (init.Array (parts_of es)) (level.Array (tests_of (parts_of es))) (level.Array (parts_of es)) (fold.at_array (Init → Bool) test (parts_of es)) (outs-Array (parts_of es)) (array_level es)
    (parts_refl es))
at_level (level.Struct es) =
    subst IsExact (sym (rolls-Struct (parts_of es)))
    (exact (init.Struct (parts_of es)) (level.Struct (tests_of (parts_of es))) (level.Struct (parts_of es)) (fold.at_struct (Init → Bool) test (parts_of es)) (outs-Struct (parts_of es))
    (struct_level es) (parts_refl es))

all_exact : (i : Init) → IsExact i
all_exact = ind-Init IsExact (λ x y is. subst (λ z. IsExact (roll-Init z)) is (at_level y))

start_true : (a b : Option Init) → same_start a b ≡ true → a ≡ b
start_true None None h = refl
start_true (Some i) (Some j) h = ap (λ k. Some k) ((all_exact i).0 j h)
start_true None (Some j) h = cc
start_true (Some i) None h = cc

start_refl : (a : Option Init) → same_start a a ≡ true
start_refl None = refl
start_refl (Some i) = (all_exact i).1

-- ---- globals

-- the linkage of that number
abbrev linkage_of : ℕ → Linkage
linkage_of zero = linkage.External
linkage_of (suc zero) = linkage.Private
linkage_of (suc (suc zero)) = linkage.Internal
linkage_of (suc (suc (suc zero))) = linkage.Common
linkage_of (suc (suc (suc (suc zero)))) = linkage.AvailableExternally
linkage_of (suc (suc (suc (suc (suc zero))))) = linkage.LinkonceOdr
linkage_of (suc (suc (suc (suc (suc (suc n)))))) = linkage.WeakOdr

linkage_back : (a : Linkage) → linkage_of (linkage_code a) ≡ a
linkage_back linkage.External = refl
linkage_back linkage.Private = refl
linkage_back linkage.Internal = refl
linkage_back linkage.Common = refl
linkage_back linkage.AvailableExternally = refl
linkage_back linkage.LinkonceOdr = refl
linkage_back linkage.WeakOdr = refl

linkage_true : (a b : Linkage) → same_linkage a b ≡ true → a ≡ b
linkage_true a b h = sym (linkage_back a) ∙ ap linkage_of (same_nat_true (linkage_code a) (linkage_code b) h) ∙ linkage_back b

linkage_refl : (a : Linkage) → same_linkage a a ≡ true
linkage_refl a = same_nat_refl (linkage_code a)

pub same_global_true : (g h : GlobalVar) → same_global g h ≡ true → g ≡ h
same_global_true g h e =
    let one = same_name g.name h.name in
    let two = one && same_linkage g.linkage h.linkage in
    let three = two && same_bool g.constant h.constant in
    let four = three && same_ty g.ty h.ty in
    let five = four && same_start g.init h.init in
    let to_five : five ≡ true = left_true five (same_align g.align h.align) e in
    let to_four : four ≡ true = left_true four (same_start g.init h.init) to_five in
    let to_three : three ≡ true = left_true three (same_ty g.ty h.ty) to_four in
    let to_two : two ≡ true = left_true two (same_bool g.constant h.constant) to_three in
    let names : g.name ≡ h.name = same_name_true g.name h.name (left_true one (same_linkage g.linkage h.linkage) to_two) in
    let linkages : g.linkage ≡ h.linkage = linkage_true g.linkage h.linkage (right_true one (same_linkage g.linkage h.linkage) to_two) in
    let constants : g.constant ≡ h.constant = same_bool_true g.constant h.constant (right_true two (same_bool g.constant h.constant) to_three) in
    let types : g.ty ≡ h.ty = same_ty_true g.ty h.ty (right_true three (same_ty g.ty h.ty) to_four) in
    let inits : g.init ≡ h.init = start_true g.init h.init (right_true four (same_start g.init h.init) to_five) in
    let aligns : g.align ≡ h.align = same_align_true g.align h.align (right_true five (same_align g.align h.align) e) in
    λ k. record { name = names k; linkage = linkages k; constant = constants k; ty = types k; init = inits k; align = aligns k }

pub same_global_refl : (g : GlobalVar) → same_global g g ≡ true
same_global_refl g =
    all_true (all_true (all_true (all_true (all_true (same_name_refl g.name) (linkage_refl g.linkage)) (same_bool_refl g.constant)) (same_ty_refl g.ty)) (start_refl g.init))
    (same_align_refl g.align)

-- ---- declarations

extensions_true : (a b : Extensions) → same_extensions a b ≡ true → a ≡ b
extensions_true a b e =
    let signs : a.signed ≡ b.signed = same_bool_true a.signed b.signed (left_true (same_bool a.signed b.signed) (same_bool a.zero b.zero) e) in
    let zeros : a.zero ≡ b.zero = same_bool_true a.zero b.zero (right_true (same_bool a.signed b.signed) (same_bool a.zero b.zero) e) in
    λ k. record { signed = signs k; zero = zeros k }

extensions_refl : (a : Extensions) → same_extensions a a ≡ true
extensions_refl a = all_true (same_bool_refl a.signed) (same_bool_refl a.zero)

param_true : (p q : DeclaredParam) → same_declared_param p q ≡ true → p ≡ q
param_true p q e =
    let types : p.ty ≡ q.ty = same_ty_true p.ty q.ty (left_true (same_ty p.ty q.ty) (same_extensions p.extensions q.extensions) e) in
    let extensions : p.extensions ≡ q.extensions = extensions_true p.extensions q.extensions (right_true (same_ty p.ty q.ty) (same_extensions p.extensions q.extensions) e) in
    λ k. record { ty = types k; extensions = extensions k }

param_refl : (p : DeclaredParam) → same_declared_param p p ≡ true
param_refl p = all_true (same_ty_refl p.ty) (extensions_refl p.extensions)

pub same_params_true : (ps qs : List DeclaredParam) → same_list same_declared_param ps qs ≡ true → ps ≡ qs
same_params_true = same_list_true same_declared_param param_true

pub same_params_refl : (ps : List DeclaredParam) → same_list same_declared_param ps ps ≡ true
same_params_refl = same_list_refl same_declared_param param_refl

pub declaration_true : (d e : Declaration) → same_declaration d e ≡ true → IsDeclaredAs d e
declaration_true d e h =
    let one = same_extensions d.result_extensions e.result_extensions in
    let two = one && same_ty d.result e.result in
    let three = two && same_name d.name e.name in
    let four = three && same_list same_declared_param d.params e.params in
    let to_four : four ≡ true = left_true four (same_bool d.variadic e.variadic) h in
    let to_three : three ≡ true = left_true three (same_list same_declared_param d.params e.params) to_four in
    let to_two : two ≡ true = left_true two (same_name d.name e.name) to_three in
    record {
      result_extensions = extensions_true d.result_extensions e.result_extensions (left_true one (same_ty d.result e.result) to_two);
      result = same_ty_true d.result e.result (right_true one (same_ty d.result e.result) to_two);
      name = same_name_true d.name e.name (right_true two (same_name d.name e.name) to_three);
      params = same_params_true d.params e.params (right_true three (same_list same_declared_param d.params e.params) to_four);
      variadic = same_bool_true d.variadic e.variadic (right_true four (same_bool d.variadic e.variadic) h);
    }

-- what is true of each thing and itself is true of equal things
of_equal : {A : Type 0} (same : A → A → Bool) → ((a : A) → same a a ≡ true) → (a b : A) → a ≡ b → same a b ≡ true
of_equal same itself a b e = subst (λ c. same a c ≡ true) e (itself a)

pub declaration_is : (d e : Declaration) → IsDeclaredAs d e → same_declaration d e ≡ true
declaration_is d e h =
    all_true (all_true (all_true (all_true (of_equal same_extensions extensions_refl d.result_extensions e.result_extensions h.result_extensions)
    (of_equal same_ty same_ty_refl d.result e.result h.result)) (of_equal same_name same_name_refl d.name e.name h.name))
    (of_equal (same_list same_declared_param) same_params_refl d.params e.params h.params)) (of_equal same_bool same_bool_refl d.variadic e.variadic h.variadic)

-- a test that is true exactly of equal things is this one
pub same_test : {A : Type 0} (same : A → A → Bool) → ((a b : A) → same a b ≡ true → a ≡ b) → ((a : A) → same a a ≡ true) → (a b : A) (r : Bool) → (IsTrue r ↔ (a ≡ b)) → r ≡ same a b
same_test same law itself a b r is =
    both_ways r (same a b) (λ yes. of_equal same itself a b (is.0 yes)) (λ yes. is.1 (law a b yes))

-- ---- lists

pub globals_true : (gs hs : List GlobalVar) → same_list same_global gs hs ≡ true → gs ≡ hs
globals_true = same_list_true same_global same_global_true

pub globals_are : (gs hs : List GlobalVar) → gs ≡ hs → same_list same_global gs hs ≡ true
globals_are = of_equal (same_list same_global) (same_list_refl same_global same_global_refl)

pub declarations_true : (ds es : List Declaration) → same_list same_declaration ds es ≡ true → AreDeclaredAlike ds es
declarations_true [] [] h = tt
declarations_true [] (e ∷ es) h = cc
declarations_true (d ∷ ds) [] h = cc
declarations_true (d ∷ ds) (e ∷ es) h = (
  declaration_true d e (left_true (same_declaration d e) (same_list same_declaration ds es) h),
  declarations_true ds es (right_true (same_declaration d e) (same_list same_declaration ds es) h),
)

pub declarations_are : (ds es : List Declaration) → AreDeclaredAlike ds es → same_list same_declaration ds es ≡ true
declarations_are [] [] h = refl
declarations_are [] (e ∷ es) h = absurd h
declarations_are (d ∷ ds) [] h = absurd h
declarations_are (d ∷ ds) (e ∷ es) h = all_true (declaration_is d e h.0) (declarations_are ds es h.1)
