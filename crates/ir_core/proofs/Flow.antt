-- Functions of more than one block: which parts of well-formedness they have.
use Rattle.std.proofs.Common.{◌≡◌, ℕ, suc, zero, true, false, List, [], ◌∷◌, ◌++◌, refl, ap, sym, ◌∙◌, subst, arith, nat_eq}
use Rattle.std.proofs.lemmas.List.Elements.{Contains-append_right}
use Rattle.std.proofs.lemmas.List.Sorted.{IsPermutation-refl, length_permutation}
use Rattle.std.specs.List.{AllByRecursion, Contains, flat_map}
use Rattle.ir_core.specs.declared.functions.Block.{Block}
use Rattle.ir_core.specs.declared.functions.Case.{Case}
use Rattle.ir_core.specs.declared.functions.Entry.{Entry}
use Rattle.ir_core.specs.declared.functions.Function.{Function}
use Rattle.ir_core.specs.declared.functions.Term.{Term}
use Rattle.ir_core.specs.declared.functions.Term.TheVariants.{Ret, RetVoid, Br, Unreachable}
use Rattle.ir_core.specs.declared.modules.Module.{Module}
use Rattle.ir_types.specs.declared.names.Name.{Name}
use Rattle.ir_core.specs.declared.operands.Atom.{Atom}
use Rattle.ir_core.specs.declared.operands.Atom.TheVariants.{Constant, Register}
use Rattle.ir_core.specs.declared.operands.Const.TheVariants as constant
use Rattle.ir_core.specs.declared.operands.Operand.{Operand}
use Rattle.ir_types.specs.declared.ty.Ty.TheVariants.{Int, Void}
use Rattle.ir_core.specs.Examples.{alone, f, held, number, x, y}
use Rattle.ir_core.specs.FlowExamples.{before_return, behind_phi, branching, choosing, ending, from_f, joining, looping, of_end, one_arm, switching, to_x, z}
use Rattle.ir_core.specs.FlowLaws.{CasesAreApart, JumpsGoToBlocks, PathsDefine, PhisFollowEdges}
use Rattle.ir_core.specs.Functions.{cases_of, edges_into, names_in, operands_at_end, operands_in_block, params_of, registers_of, successors_of, typed_of}
use Rattle.ir_core.specs.StatedTypes.{types_in}
use Rattle.ir_core.specs.TypeNames.{names_in_type}
use Rattle.ir_core.proofs.Narrow.{IsNarrow, IsNarrowCase, IsNarrowOperand, wide}
use Rattle.ir_core.proofs.Within.{well_formed}
use Rattle.ir_core.specs.Ranges.{IsNameInRange}
use Rattle.ir_types.specs.Same.{same_name}
use Rattle.ir_core.specs.WellFormed.{AllUseDefined, BlockUsesDefined, BranchesOn, HasCases, HasShape, HasType, IsDefined, IsFunctionDefined, IsPath, PathUsesDefined, PhisUseDefined, Returns}
use Rattle.ir_core.proofs.Operations.{other_type}
use Rattle.ir_core.proofs.TypeNames.{at_int, at_void}
use Rattle.ir_core.proofs.Typing.{in_number, nameless, number_is}
use Rattle.ir_core.proofs.WellFormed.{in_none, in_one, in_two, name_f, name_x, name_y}

pub name_z : IsNameInRange z
name_z = (omega arith, (omega arith, tt))

-- ---- lists

number_in_none : (n : ℕ) → Contains {X = ℕ} [] n → ⊥
number_in_none n there = absurd (omega (arith, there.1))

number_in_one : (m n : ℕ) → nat_eq m n ≡ false → nat_eq m m ≡ true → Contains (m ∷ []) n → ⊥
number_in_one m n other same (zero, inside, is) =
    let both : nat_eq m m ≡ nat_eq m n = ap (nat_eq m) is in cc
number_in_one m n other same (suc k, inside, is) = absurd (omega (arith, inside))

one_block : (P : Block → Type 0) (a : Block) → P a → (b : Block) → Contains (a ∷ []) b → P b
one_block P a first b (zero, inside, is) = subst P is first
one_block P a first b (suc k, inside, is) = absurd (omega (arith, inside))

two_blocks : (P : Block → Type 0) (a c : Block) → P a → P c → (b : Block) → Contains (a ∷ c ∷ []) b → P b
two_blocks P a c first second b (zero, inside, is) = subst P is first
two_blocks P a c first second b (suc zero, inside, is) = subst P is second
two_blocks P a c first second b (suc (suc k), inside, is) = absurd (omega (arith, inside))

-- ---- definedness

-- each block uses what is defined, whatever was defined before it
abbrev LinesUse : Function → Type 0
LinesUse g = (b : Block) → Contains g.blocks b → (taken : List Name) → BlockUsesDefined taken b

-- and so does each phi on each edge
abbrev EdgesUse : Function → Type 0
EdgesUse g = (b c : Block) → Contains g.blocks b → Contains g.blocks c → (taken : List Name) → PhisUseDefined (taken ++ names_in (registers_of b)) b.name c

along : (g : Function) → LinesUse g → EdgesUse g → (taken : List Name) (b : Block) (path : List Block) → Contains g.blocks b → IsPath g b path → PathUsesDefined taken b path
along g lines edges taken b [] there goes = lines b there taken
along g lines edges taken b (c ∷ path) there goes =
    (lines b there taken, edges b c there goes.0 taken, along g lines edges (taken ++ names_in (registers_of b)) c path goes.0 goes.2)

each_path : (g : Function) → LinesUse g → EdgesUse g → IsFunctionDefined g
each_path g lines edges first further path are goes =
    along g lines edges (names_in (params_of g)) first path (subst (λ (bs : List Block). Contains bs first) (sym are) (zero, omega arith, refl)) goes

-- ---- a block before one that returns

before_shape : (t : Term) → edges_into (before_return t) f ≡ [] → flat_map names_in_type (types_in (before_return t)) ≡ []
    → AllByRecursion (λ (o : Operand Name). HasType (alone (before_return t)) (typed_of (before_return t)) o.ty o.atom) (flat_map operands_in_block (before_return t).blocks)
    → AllByRecursion (Contains (f ∷ x ∷ [])) (successors_of t) → BranchesOn t → Returns Void t → HasCases t → HasShape (alone (before_return t))
before_shape t not_entered names operands labels branches returns cases = record {
  types_apart = tt;
  types = tt;
  globals = tt;
  functions = (
    record {
      first = _;
      further = _;
      blocks = refl;
      not_entered = not_entered;
      name = refl;
      names = (in_none f, (in_one f x refl refl, tt));
      types = nameless (before_return t) names;
      result = tt;
      registers = tt;
      operands = operands;
      each = (
        record { phis = tt; lines = tt; labels = labels; branches = branches; returns = returns; cases = cases },
        (record { phis = tt; lines = tt; labels = tt; branches = tt; returns = refl; cases = tt }, tt),
      );
    },
    tt,
  );
  declarations = tt;
  names = (in_none f, tt);
}

before_defined : (t : Term) → ((taken : List Name) → AllUseDefined taken (operands_at_end t)) → IsDefined (alone (before_return t))
before_defined t uses = (
  each_path (before_return t) (λ b there taken. two_blocks (λ (b : Block). BlockUsesDefined taken b) (ending f t) (ending x RetVoid) (uses (taken ++ [])) tt b there) (λ b c from to taken. two_blocks (λ (c : Block). PhisUseDefined (taken ++ names_in (registers_of b)) b.name c) (ending f t) (ending x RetVoid) tt tt c to),
  tt,
)

before_range : (t : Term) → AllByRecursion IsNarrowOperand (flat_map operands_in_block (before_return t).blocks)
    → AllByRecursion IsNarrowCase (flat_map (λ (b : Block). cases_of b.term) (before_return t).blocks) → IsNarrow (alone (before_return t))
before_range t operands cases = record {
  types = tt;
  globals = refl;
  functions = (
    record {
      name = name_f;
      names = (name_f, (name_x, tt));
      result = tt;
      registers = tt;
      operands = operands;
      flags = tt;
      cases = cases;
      linkage = refl;
      extensions = (refl, tt);
    },
    tt,
  );
  declarations = refl;
}

-- ---- jumps

to_known : Contains (f ∷ x ∷ []) x
to_known = (1, omega arith, refl)

of_end_range : (t : Term) → operands_at_end t ≡ [] → cases_of t ≡ [] → IsNarrow (alone (of_end t))
of_end_range t operands cases = record {
  types = tt;
  globals = refl;
  functions = (
    record {
      name = name_f;
      names = (name_f, tt);
      result = tt;
      registers = tt;
      operands = subst (λ (os : List (Operand Name)). AllByRecursion IsNarrowOperand (os ++ [])) (sym operands) tt;
      flags = tt;
      cases = subst (λ (cs : List Case). AllByRecursion IsNarrowCase (cs ++ [])) (sym cases) tt;
      linkage = refl;
      extensions = (refl, tt);
    },
    tt,
  );
  declarations = refl;
}

of_end_defined : (t : Term) → operands_at_end t ≡ [] → IsDefined (alone (of_end t))
of_end_defined t operands = (
  each_path (of_end t) (λ b there taken. one_block (λ (b : Block). BlockUsesDefined taken b) (ending f t) (subst (λ (os : List (Operand Name)). AllUseDefined (taken ++ []) os) (sym operands) tt) b there) (λ b c from to taken. one_block (λ (c : Block). PhisUseDefined (taken ++ names_in (registers_of b)) b.name c) (ending f t) tt c to),
  tt,
)

condition_range : (w : ℕ) → IsNarrowOperand {R = Name} (record { ty = Int w; atom = number 1 }) → IsNarrow (alone (before_return (branching (Int w) x x)))
condition_range w fits = before_range (branching (Int w) x x) (fits, tt) tt

entered_first : (first : Block) (further : List Block) → (of_end (Br f)).blocks ≡ first ∷ further → edges_into (of_end (Br f)) first.name ≡ [] → ⊥
entered_first first further are none =
    let same : ending f (Br f) ≡ first = cc in
    let entered : f ∷ [] ≡ [] = subst (λ (b : Block). edges_into (of_end (Br f)) b.name ≡ []) (sym same) none in
    cc

pub jumps_go_to_blocks : JumpsGoToBlocks
jumps_go_to_blocks = record {
  known = well_formed _ (before_shape (Br x) refl (simp (at_void) refl) tt (to_known, tt) tt tt tt) (before_defined (Br x) (λ taken. tt)) (before_range (Br x) tt tt) (omega arith, tt);
  unknown = (
    λ shape. in_one f x refl refl shape.functions.0.each.0.labels.0,
    of_end_defined (Br x) refl,
    wide _ (of_end_range (Br x) refl refl),
  );
  entry = (
    λ shape. entered_first shape.functions.0.first shape.functions.0.further shape.functions.0.blocks shape.functions.0.not_entered,
    of_end_defined (Br f) refl,
    wide _ (of_end_range (Br f) refl refl),
  );
  nowhere = well_formed _ (record {
    types_apart = tt;
    types = tt;
    globals = tt;
    functions = (
      record {
        first = _;
        further = [];
        blocks = refl;
        not_entered = refl;
        name = refl;
        names = (in_none f, tt);
        types = nameless (of_end Unreachable) (simp (at_void) refl);
        result = tt;
        registers = tt;
        operands = tt;
        each = (record { phis = tt; lines = tt; labels = tt; branches = tt; returns = tt; cases = tt }, tt);
      },
      tt,
    );
    declarations = tt;
    names = (in_none f, tt);
  }) (of_end_defined Unreachable refl) (of_end_range Unreachable refl refl) (omega arith, tt);
  condition = well_formed _ (before_shape (branching (Int 1) x x) refl (simp (in_number, at_int, at_void) refl) (number_is (alone (before_return (branching (Int 1) x x))) (Int 1) 1, tt) (to_known, (to_known, tt)) refl tt tt) (before_defined (branching (Int 1) x x) (λ taken. (tt, tt))) (condition_range 1 (refl, refl)) (omega arith, tt);
  wide_condition = (
    λ shape. other_type (Int 8) (Int 1) refl refl shape.functions.0.each.0.branches,
    before_defined (branching (Int 8) x x) (λ taken. (tt, tt)),
    wide _ (condition_range 8 (refl, refl)),
  );
}

-- ---- phis

joining_range : (entries : List Entry) → AllByRecursion IsNarrowOperand (flat_map operands_in_block (joining entries).blocks) → IsNarrow (alone (joining entries))
joining_range entries operands = record {
  types = tt;
  globals = refl;
  functions = (
    record {
      name = name_f;
      names = (name_f, (name_x, (name_y, tt)));
      result = tt;
      registers = (refl, tt);
      operands = operands;
      flags = tt;
      cases = tt;
      linkage = refl;
      extensions = (refl, tt);
    },
    tt,
  );
  declarations = refl;
}

-- entries of constants use no registers
joining_defined : (entries : List Entry) → ((taken : List Name) (from : Name) → PhisUseDefined taken from (behind_phi entries RetVoid)) → IsDefined (alone (joining entries))
joining_defined entries constants = (
  each_path (joining entries) (λ b there taken. two_blocks (λ (b : Block). BlockUsesDefined taken b) (ending f (branching (Int 1) x x)) (behind_phi entries RetVoid) (tt, tt) tt b there) (λ b c from to taken. two_blocks (λ (c : Block). PhisUseDefined (taken ++ names_in (registers_of b)) b.name c) (ending f (branching (Int 1) x x)) (behind_phi entries RetVoid) tt (constants (taken ++ names_in (registers_of b)) b.name) c to),
  tt,
)

-- of entries that are one, each two are
one_entry : (P : Entry → Type 0) (a b : Entry) → P a → P b → (e : Entry) → Contains (a ∷ b ∷ []) e → P e
one_entry P a b first second e (zero, inside, is) = subst P is first
one_entry P a b first second e (suc zero, inside, is) = subst P is second
one_entry P a b first second e (suc (suc k), inside, is) = absurd (omega (arith, inside))

both_alike : (d e : Entry) → Contains (from_f 0 ∷ from_f 0 ∷ []) d → Contains (from_f 0 ∷ from_f 0 ∷ []) e → d.from ≡ e.from → d ≡ e
both_alike d e first second same =
    let left = one_entry (λ (e : Entry). from_f 0 ≡ e) (from_f 0) (from_f 0) refl refl d first in
    let right = one_entry (λ (e : Entry). from_f 0 ≡ e) (from_f 0) (from_f 0) refl refl e second in
    sym left ∙ right

abbrev number_in : Atom Name → ℕ
number_in (Constant (constant.Number n)) = n
number_in a = 0

other_number : (m n : ℕ) → nat_eq m m ≡ true → nat_eq m n ≡ false → from_f m ≡ from_f n → ⊥
other_number m n same other is =
    let both : nat_eq m m ≡ nat_eq m n = ap (λ (e : Entry). nat_eq m (number_in e.value)) is in cc

abbrev twice_alike : Module
twice_alike = alone (joining (from_f 0 ∷ from_f 0 ∷ []))

pub phis_follow_edges : PhisFollowEdges
phis_follow_edges = record {
  alike = well_formed _ (record {
    types_apart = tt;
    types = tt;
    globals = tt;
    functions = (
      record {
        first = _;
        further = _;
        blocks = refl;
        not_entered = refl;
        name = refl;
        names = (in_none f, (in_one f x refl refl, (in_two f x y refl refl refl refl, tt)));
        types = nameless (joining (from_f 0 ∷ from_f 0 ∷ [])) (simp (in_number, at_int, at_void) refl);
        result = tt;
        registers = (refl, tt);
        operands = (number_is twice_alike (Int 1) 1, (number_is twice_alike (Int 32) 0, (number_is twice_alike (Int 32) 0, tt)));
        each = (
          record { phis = tt; lines = tt; labels = (to_known, (to_known, tt)); branches = refl; returns = tt; cases = tt },
          (
            record {
              phis = (record { some = omega arith; edges = IsPermutation-refl (f ∷ f ∷ []); alike = both_alike }, tt);
              lines = tt;
              labels = tt;
              branches = tt;
              returns = refl;
              cases = tt;
            },
            tt,
          ),
        );
      },
      tt,
    );
    declarations = tt;
    names = (in_none f, tt);
  }) (joining_defined (from_f 0 ∷ from_f 0 ∷ []) (λ taken from. ((λ same. tt, (λ same. tt, tt)), tt))) (joining_range (from_f 0 ∷ from_f 0 ∷ []) ((refl, refl), ((refl, refl), ((refl, refl), tt)))) (omega arith, tt);
  unlike = (
    λ shape. other_number 0 1 refl refl (shape.functions.0.each.1.0.phis.0.alike (from_f 0) (from_f 1) (0, omega arith, refl) (1, omega arith, refl) refl),
    joining_defined (from_f 0 ∷ from_f 1 ∷ []) (λ taken from. ((λ same. tt, (λ same. tt, tt)), tt)),
    wide _ (joining_range (from_f 0 ∷ from_f 1 ∷ []) ((refl, refl), ((refl, refl), ((refl, refl), tt)))),
  );
  too_few = (
    λ shape.
        let many : 1 ≡ 2 = length_permutation _ _ shape.functions.0.each.1.0.phis.0.edges in
        absurd (omega (arith, many)),
    joining_defined (from_f 0 ∷ []) (λ taken from. ((λ same. tt, tt), tt)),
    wide _ (joining_range (from_f 0 ∷ []) ((refl, refl), ((refl, refl), tt))),
  );
  too_many = (
    λ shape.
        let many : 3 ≡ 2 = length_permutation _ _ shape.functions.0.each.1.0.phis.0.edges in
        absurd (omega (arith, many)),
    joining_defined (from_f 0 ∷ from_f 0 ∷ from_f 0 ∷ []) (λ taken from. ((λ same. tt, (λ same. tt, (λ same. tt, tt))), tt)),
    wide _ (joining_range (from_f 0 ∷ from_f 0 ∷ from_f 0 ∷ []) ((refl, refl), ((refl, refl), ((refl, refl), ((refl, refl), tt))))),
  );
}

-- ---- cases

switch_defined : (cases : List Case) → IsDefined (alone (switching cases))
switch_defined cases = before_defined (choosing x cases) (λ taken. (tt, tt))

switch_shape : (cases : List Case) → edges_into (switching cases) f ≡ [] → flat_map names_in_type (types_in (switching cases)) ≡ [] → AllByRecursion (Contains (f ∷ x ∷ [])) (successors_of (choosing x cases)) → HasCases (choosing x cases) → HasShape (alone (switching cases))
switch_shape cases not_entered names labels apart =
    before_shape (choosing x cases) not_entered names (number_is (alone (switching cases)) (Int 8) 1, tt) labels refl tt apart

switch_range : (cases : List Case) → AllByRecursion IsNarrowCase (cases ++ []) → IsNarrow (alone (switching cases))
switch_range cases fit = before_range (choosing x cases) ((refl, refl), tt) fit

pub cases_are_apart : CasesAreApart
cases_are_apart = record {
  none = well_formed _ (switch_shape [] refl (simp (in_number, at_int, at_void) refl) (to_known, tt) (record { typed = tt; apart = tt })) (switch_defined []) (switch_range [] tt) (omega arith, tt);
  apart = well_formed _ (switch_shape (to_x (Int 8) 255 ∷ to_x (Int 8) 0 ∷ []) refl (simp (in_number, at_int, at_void) refl) (to_known, (to_known, (to_known, tt))) (record { typed = (refl, (refl, tt)); apart = (number_in_none 255, (number_in_one 255 0 refl refl, tt)) })) (switch_defined _) (switch_range _ ((refl, refl), ((refl, refl), tt))) (omega arith, tt);
  twice = (
    λ shape. shape.functions.0.each.0.cases.apart.1.0 (zero, omega arith, refl),
    switch_defined _,
    wide _ (switch_range _ ((refl, refl), ((refl, refl), tt))),
  );
  other_type = (
    λ shape. other_type (Int 16) (Int 8) refl refl shape.functions.0.each.0.cases.typed.0,
    switch_defined _,
    wide _ (switch_range _ ((refl, refl), tt)),
  );
  modulo = λ shape. shape.functions.0.each.0.cases.apart.1.0 (zero, omega arith, refl);
  out_of_range = (
    switch_shape (to_x (Int 8) 256 ∷ []) refl (simp (in_number, at_int, at_void) refl) (to_known, (to_known, tt)) (record { typed = (refl, tt); apart = (number_in_none 0, tt) }),
    switch_defined _,
    λ range. let wide = range.functions.0.cases.0.1 in cc,
  );
}

-- ---- paths

pub in_three : (a b c d : Name) → same_name a d ≡ false → same_name a a ≡ true → same_name b d ≡ false → same_name b b ≡ true → same_name c d ≡ false → same_name c c ≡ true → Contains (a ∷ b ∷ c ∷ []) d → ⊥
in_three a b c d other same further also last too (zero, inside, is) =
    let both : same_name a a ≡ same_name a d = ap (same_name a) is in cc
in_three a b c d other same further also last too (suc k, inside, is) = in_two b c d further also last too (k, omega (arith, inside), is)

abbrev back : Entry
back = record { value = Register y; from = x }

f_is_no_x : f ≡ x → ⊥
f_is_no_x is =
    let both : true ≡ false = ap (same_name f) is in cc

loop_alike : (d e : Entry) → Contains (from_f 0 ∷ back ∷ []) d → Contains (from_f 0 ∷ back ∷ []) e → d.from ≡ e.from → d ≡ e
loop_alike d e first second =
    one_entry (λ (d : Entry). d.from ≡ e.from → d ≡ e) (from_f 0) back (λ same. one_entry (λ (e : Entry). f ≡ e.from → from_f 0 ≡ e) (from_f 0) back (λ _. refl) (λ is. absurd (f_is_no_x is)) e second same) (λ same. one_entry (λ (e : Entry). x ≡ e.from → back ≡ e) (from_f 0) back (λ is. absurd (f_is_no_x (sym is))) (λ _. refl) e second same) d first

loop_lines : LinesUse looping
loop_lines b there taken = two_blocks (λ (b : Block). BlockUsesDefined taken b) (ending f (Br x)) (behind_phi (from_f 0 ∷ back ∷ []) (Br x)) tt tt b there

-- on the edge back the phi's register is one of the block's
goes_back : (b : Block) → Contains looping.blocks b → (taken : List Name) → PhisUseDefined (taken ++ names_in (registers_of b)) b.name (behind_phi (from_f 0 ∷ back ∷ []) (Br x))
goes_back b there taken =
    two_blocks (λ (b : Block). PhisUseDefined (taken ++ names_in (registers_of b)) b.name (behind_phi (from_f 0 ∷ back ∷ []) (Br x))) (ending f (Br x)) (behind_phi (from_f 0 ∷ back ∷ []) (Br x)) ((λ same. tt, (λ is. absurd (f_is_no_x (sym is)), tt)), tt) ((λ same. tt, (λ same. Contains-append_right taken (y ∷ []) y (zero, omega arith, refl), tt)), tt) b there

loop_edges : EdgesUse looping
loop_edges b c from to taken =
    two_blocks (λ (c : Block). PhisUseDefined (taken ++ names_in (registers_of b)) b.name c) (ending f (Br x)) (behind_phi (from_f 0 ∷ back ∷ []) (Br x)) tt (goes_back b from taken) c to

pub paths_define : PathsDefine
paths_define = record {
  one_arm = (
    record {
      types_apart = tt;
      types = tt;
      globals = tt;
      functions = (
        record {
          first = _;
          further = _;
          blocks = refl;
          not_entered = refl;
          name = refl;
          names = (in_none f, (in_one f x refl refl, (in_two f x z refl refl refl refl, (in_three f x z y refl refl refl refl refl refl, tt))));
          types = nameless one_arm (simp (in_number, at_int) refl);
          result = refl;
          registers = (refl, tt);
          operands = (number_is (alone one_arm) (Int 1) 1, (number_is (alone one_arm) (Int 32) 1, (number_is (alone one_arm) (Int 32) 2, ((zero, omega arith, refl), tt))));
          each = (
            record { phis = tt; lines = tt; labels = ((1, omega arith, refl), ((2, omega arith, refl), tt)); branches = refl; returns = tt; cases = tt },
            (
              record { phis = tt; lines = (refl, tt); labels = ((2, omega arith, refl), tt); branches = tt; returns = tt; cases = tt },
              (record { phis = tt; lines = tt; labels = tt; branches = tt; returns = refl; cases = tt }, tt),
            ),
          );
        },
        tt,
      );
      declarations = tt;
      names = (in_none f, tt);
    },
    λ defined.
        let uses = defined.0 (ending f (branching (Int 1) x y)) _ (ending y (Ret (held (Int 32) z)) ∷ []) refl ((2, omega arith, refl), (1, omega arith, refl), tt) in
        in_none z uses.2.0,
    wide _ (record {
      types = tt;
      globals = refl;
      functions = (
        record {
          name = name_f;
          names = (name_f, (name_x, (name_z, (name_y, tt))));
          result = refl;
          registers = (refl, tt);
          operands = ((refl, refl), ((refl, refl), ((refl, refl), ((refl, tt), tt))));
          flags = (refl, tt);
          cases = tt;
          linkage = refl;
          extensions = (refl, tt);
        },
        tt,
      );
      declarations = refl;
    }),
  );
  looping = well_formed _ (record {
    types_apart = tt;
    types = tt;
    globals = tt;
    functions = (
      record {
        first = _;
        further = _;
        blocks = refl;
        not_entered = refl;
        name = refl;
        names = (in_none f, (in_one f x refl refl, (in_two f x y refl refl refl refl, tt)));
        types = nameless looping (simp (in_number, at_int, at_void) refl);
        result = tt;
        registers = (refl, tt);
        operands = (number_is (alone looping) (Int 32) 0, ((zero, omega arith, refl), tt));
        each = (
          record { phis = tt; lines = tt; labels = (to_known, tt); branches = tt; returns = tt; cases = tt },
          (
            record {
              phis = (record { some = omega arith; edges = IsPermutation-refl (f ∷ x ∷ []); alike = loop_alike }, tt);
              lines = tt;
              labels = (to_known, tt);
              branches = tt;
              returns = tt;
              cases = tt;
            },
            tt,
          ),
        );
      },
      tt,
    );
    declarations = tt;
    names = (in_none f, tt);
  }) ((each_path looping loop_lines loop_edges, tt)) (record {
    types = tt;
    globals = refl;
    functions = (
      record {
        name = name_f;
        names = (name_f, (name_x, (name_y, tt)));
        result = tt;
        registers = (refl, tt);
        operands = ((refl, refl), ((refl, tt), tt));
        flags = tt;
        cases = tt;
        linkage = refl;
        extensions = (refl, tt);
      },
      tt,
    );
    declarations = refl;
  }) (omega arith, tt);
}
