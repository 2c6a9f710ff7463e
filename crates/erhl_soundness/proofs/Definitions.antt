-- A register that is set holds a kind at which its function defines it.
use Rattle.std.proofs.Common.{◌≡◌, Bool, true, false, ◌&&◌, not, cond, List, [], ◌∷◌, ◌++◌, map, Option, None, Some, refl, sym, ap, ◌∙◌, subst, ⊎_elim}
use Rattle.std.specs.Option.{option_eq}
use Rattle.std.specs.List.{AllByRecursion, cons_option, list_any, flat_map}
use Rattle.std.proofs.lemmas.Bool.{cond_both, or_parts, or_cases, false≢true, or_left, or_right}
use Rattle.ir_types.specs.declared.names.Name.{Name}
use Rattle.ir_types.specs.declared.ty.Ty.{Ty}
use Rattle.ir_core.specs.declared.values.Value.{Value}
use Rattle.ir_core.specs.declared.values.Value.TheVariants.{Poison}
use Rattle.ir_core.specs.declared.values.Kind.{Kind}
use Rattle.ir_core.specs.declared.values.Kind.TheVariants as kind
use Rattle.ir_core.specs.declared.functions.Instr.{Instr}
use Rattle.ir_core.specs.declared.functions.Instr.TheVariants as line
use Rattle.ir_core.specs.declared.functions.Phi.{Phi}
use Rattle.ir_core.specs.declared.functions.Param.{Param}
use Rattle.ir_core.specs.declared.functions.Block.{Block}
use Rattle.ir_core.specs.declared.functions.Function.{Function}
use Rattle.ir_core.specs.Expressions.{Expr0, type_of}
use Rattle.ir_core.specs.Functions.{set_by, phi_registers, register_of, registers_of, params_of, typed_of}
use Rattle.ir_types.specs.Same.{same_name}
use Rattle.ir_core.specs.Types.{kind_of}
use Rattle.ir_types.specs.NameLaws.{left_true, right_true, same_name_true, same_name_refl}
use Rattle.ir_values.specs.Values.{same_kind}
use Rattle.ir_values.proofs.KindLaws.{same_kind_true, same_kind_refl}
use Rattle.ir_values.specs.Constants.{Scope}
use Rattle.ir_machine.specs.Registers.{Held, Registers, no_registers, held_at, holding, set}
use Rattle.ir_machine.specs.Machine.{with_phis, phi_value}
use Rattle.erhl_assert.specs.Facts.{kind_of_expr}
use Rattle.erhl_assert.specs.Matched.{is_kind}
use Rattle.erhl_assert.specs.Steps.{is_other}
use Rattle.erhl_soundness.proofs.Matched.{is_kind_true}

-- a register with a type
abbrev pub Definition : Type 0
Definition = Name × Ty

abbrev pub defines : Name → Kind → Definition → Bool
defines x k d = same_name d.0 x && is_kind (kind_of d.1) k

abbrev pub IsDefinedIn : List Definition → Name → Option Kind → Type 0
IsDefinedIn ds x None = Unit {0}
IsDefinedIn ds x (Some k) = list_any (defines x k) ds ≡ true

abbrev pub IsDefined : Function → Name → Option Kind → Type 0
IsDefined f x o = IsDefinedIn (typed_of f) x o

abbrev pub IsHeldDefined : Function → Name → Option Held → Type 0
IsHeldDefined f x None = Unit {0}
IsHeldDefined f x (Some h) = IsDefined f x (Some h.kind)

-- THE clause
abbrev pub AreDefined : Function → Registers → Type 0
AreDefined f registers = (x : Name) → IsHeldDefined f x (registers x)

pub none_defined : (f : Function) → AreDefined f no_registers
none_defined f x = tt

holding_defined : (f : Function) (x : Name) (o : Option Kind) (v : Value) → IsDefined f x o → IsHeldDefined f x (holding o v)
holding_defined f x None v h = tt
holding_defined f x (Some k) v h = h

pub set_defined : (f : Function) (registers : Registers) (x : Name) (o : Option Kind) (v : Value) → AreDefined f registers → IsDefined f x o → AreDefined f (set registers x o v)
set_defined f registers x o v all h = λ y. cond_both (same_name x y) (holding o v) (registers y) (IsHeldDefined f y)
    (λ e. subst (λ z. IsHeldDefined f z (holding o v)) (same_name_true x y e) (holding_defined f x o v h)) (λ e. all y)

-- what `same` needs of it: where no definition is of another kind than an expression's, what the register holds is of that kind
module _ (e : Expr0) (k : Kind) (of_expr : kind_of_expr e ≡ Some k) where
  one_kind : (j : Kind) (o : Option Kind) → o ≡ Some j → not (option_eq same_kind o (kind_of_expr e)) ≡ false → j ≡ k
  one_kind j o is h = same_kind_true j k (not_false (same_kind j k) (subst (λ p. not (option_eq same_kind (Some j) p) ≡ false) of_expr (subst (λ p. not (option_eq same_kind p (kind_of_expr e)) ≡ false) is h)))
    where
      not_false : (b : Bool) → not b ≡ false → b ≡ true
      not_false true h = refl
      not_false false h = cc

  defined_kind : (x : Name) (j : Kind) (ds : List Definition) → list_any (is_other x e) ds ≡ false → list_any (defines x j) ds ≡ true → j ≡ k
  defined_kind x j [] h d = absurd (false≢true d)
  defined_kind x j (c ∷ ds) h d =
      let parts = or_parts (is_other x e c) (list_any (is_other x e) ds) h in
      ⊎_elim
      (λ defined.
      let named = left_true (same_name c.0 x) (is_kind (kind_of c.1) j) defined in
      let of_j : kind_of c.1 ≡ Some j = is_kind_true (kind_of c.1) j (right_true (same_name c.0 x) (is_kind (kind_of c.1) j) defined) in
      let other : not (option_eq same_kind (kind_of c.1) (kind_of_expr e)) ≡ false =
      sym (ap (λ b. b && not (option_eq same_kind (kind_of c.1) (kind_of_expr e))) named) ∙ parts.0 in
      one_kind j (kind_of c.1) of_j other)
      (λ later. defined_kind x j ds parts.1 later) (or_cases (defines x j c) (list_any (defines x j) ds) d)

  pub reads_poison : (f : Function) (x : Name) (j : Kind) (held : Option Held) → list_any (is_other x e) (typed_of f) ≡ false → IsHeldDefined f x held
      → same_kind k j ≡ false → held_at j held ≡ Poison
  reads_poison f x j None h d other = refl
  reads_poison f x j (Some held) h d other =
      let same : held.kind ≡ k = defined_kind x held.kind (typed_of f) h d in
      ap (λ (i : Kind). cond (same_kind i j) held.value Poison) same ∙ ap (λ b. cond b held.value Poison) other

-- each parameter, phi and line of a function is a definition of it
module _ (all : List Definition) where
  abbrev IsOne : Definition → Type 0
  IsOne d = IsDefinedIn all d.0 (kind_of d.1)

  defined_in : (ds : List Definition) → ((x : Name) (k : Kind) → list_any (defines x k) ds ≡ true → list_any (defines x k) all ≡ true)
      → AllByRecursion IsOne ds
  defined_in [] sub = tt
  defined_in (d ∷ ds) sub = (here (kind_of d.1) refl, defined_in ds (λ x k h. sub x k (or_right (defines x k d) (list_any (defines x k) ds) h)))
    where
      at_head : (k : Kind) → kind_of d.1 ≡ Some k → defines d.0 k d ≡ true
      at_head k e = rw (e, same_name_refl d.0, same_kind_refl k) refl

      here : (o : Option Kind) → kind_of d.1 ≡ o → IsDefinedIn all d.0 o
      here None e = tt
      here (Some k) e = sub d.0 k (or_left (defines d.0 k d) (list_any (defines d.0 k) ds) (at_head k e))

pub all_first : {A : Type 0} (P : A → Type 0) (xs ys : List A) → AllByRecursion P (xs ++ ys) → AllByRecursion P xs
all_first P [] ys h = tt
all_first P (x ∷ xs) ys h = (h.0, all_first P xs ys h.1)

pub all_second : {A : Type 0} (P : A → Type 0) (xs ys : List A) → AllByRecursion P (xs ++ ys) → AllByRecursion P ys
all_second P [] ys h = h
all_second P (x ∷ xs) ys h = all_second P xs ys h.1

pub all_unmapped : {A B : Type 0} (P : B → Type 0) (f : A → B) (xs : List A) → AllByRecursion P (map f xs) → AllByRecursion (λ x. P (f x)) xs
all_unmapped P f [] h = tt
all_unmapped P f (x ∷ xs) h = (h.0, all_unmapped P f xs h.1)

abbrev pub IsLineDefined : Function → Instr → Type 0
IsLineDefined f (line.Calm l) = IsDefined f l.name (kind_of (type_of l.right))
IsLineDefined f (line.Alloca a) = IsDefined f a.name (kind_of a.to)
IsLineDefined f i = Unit {0}

abbrev pub AreLinesDefined : Function → List Instr → Type 0
AreLinesDefined f ls = AllByRecursion (IsLineDefined f) ls

abbrev pub ArePhisDefined : Function → List Phi → Type 0
ArePhisDefined f ps = AllByRecursion (λ (p : Phi). IsDefined f p.name (kind_of p.ty)) ps

abbrev pub AreParamsDefined : Function → List Param → Type 0
AreParamsDefined f ps = AllByRecursion (λ (p : Param). IsDefined f p.name (kind_of p.ty)) ps

abbrev pub IsBlockDefined : Function → Block → Type 0
IsBlockDefined f b = ArePhisDefined f b.phis × AreLinesDefined f b.body

module _ (f : Function) where
  abbrev P : Definition → Type 0
  P = IsOne (typed_of f)

  behind : (o : Option Definition) (rs : List Definition) → AllByRecursion P (cons_option o rs) → AllByRecursion P rs
  behind None rs h = h
  behind (Some r) rs h = h.1

  lines_in : (ls : List Instr) → AllByRecursion P (set_by ls) → AreLinesDefined f ls
  lines_in [] h = tt
  lines_in (line.Calm l ∷ ls) h = (h.0, lines_in ls h.1)
  lines_in (line.Alloca a ∷ ls) h = (h.0, lines_in ls h.1)
  lines_in (i ∷ ls) h = (tt, lines_in ls (behind (register_of i) (set_by ls) h))

  in_blocks : (bs : List Block) → AllByRecursion P (flat_map registers_of bs) → AllByRecursion (IsBlockDefined f) bs
  in_blocks [] h = tt
  in_blocks (b ∷ bs) h =
      let here = all_first P (registers_of b) (flat_map registers_of bs) h in (
        (
          all_unmapped P (λ (p : Phi). (p.name, p.ty)) b.phis (all_first P (phi_registers b.phis) (set_by b.body) here),
          lines_in b.body (all_second P (phi_registers b.phis) (set_by b.body) here),
        ),
        in_blocks bs (all_second P (registers_of b) (flat_map registers_of bs) h),
      )

  all_defined : AllByRecursion P (typed_of f)
  all_defined = defined_in (typed_of f) (typed_of f) (λ x k h. h)

  pub blocks_defined : AllByRecursion (IsBlockDefined f) f.blocks
  blocks_defined = in_blocks f.blocks (all_second P (params_of f) (flat_map registers_of f.blocks) all_defined)

  pub params_defined : AreParamsDefined f f.params
  params_defined =
      all_unmapped P (λ (p : Param). (p.name, p.ty)) f.params
      (all_first P (params_of f) (flat_map registers_of f.blocks) all_defined)

  pub phis_defined : (scope : Scope) (from : Name) (ps : List Phi) (old registers : Registers) → ArePhisDefined f ps → AreDefined f registers
      → AreDefined f (with_phis scope old from ps registers)
  phis_defined scope from [] old registers h all = all
  phis_defined scope from (p ∷ ps) old registers h all =
      phis_defined scope from ps old (set registers p.name (kind_of p.ty) (phi_value scope old from p)) h.1
      (set_defined f registers p.name (kind_of p.ty) (phi_value scope old from p) all h.0)
