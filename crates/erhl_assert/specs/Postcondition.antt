-- What is known after an aligned line, from what was known before it.
use Rattle.std.specs.Prelude.{ℕ, zero, suc, Bool, true, ◌&&◌, ◌||◌, cond, not, nat_lt, filter, map, List, [], ◌∷◌, ◌++◌, Option, None, Some}
use Rattle.std.specs.List.{flat_map}
use Rattle.std.specs.Option.{is_none}
use Rattle.ir_types.specs.declared.names.Name.{Name}
use Rattle.ir_types.specs.declared.named.NamedTy.{NamedTy}
use Rattle.ir_types.specs.declared.ty.Ty.{Ty}
use Rattle.ir_types.specs.declared.ty.Ty.TheVariants.{Ptr}
use Rattle.ir_core.specs.declared.values.Kind.{Kind}
use Rattle.ir_core.specs.declared.operands.Const.TheVariants.{Undef}
use Rattle.ir_core.specs.declared.operands.Atom.{Atom}
use Rattle.ir_core.specs.declared.operands.Atom.TheVariants as atom
use Rattle.ir_core.specs.declared.operands.Operand.{Operand}
use Rattle.ir_core.specs.declared.functions.Argument.{Argument}
use Rattle.ir_core.specs.declared.functions.Calm.{Calm}
use Rattle.ir_core.specs.declared.functions.Instr.{Instr}
use Rattle.ir_core.specs.declared.functions.Instr.TheVariants as line
use Rattle.ir_core.specs.declared.expressions.Reg.{Reg}
use Rattle.ir_core.specs.declared.expressions.Reg.TheVariants.{Now}
use Rattle.ir_core.specs.declared.expressions.Expr.{Expr}
use Rattle.ir_core.specs.declared.expressions.Expr.TheVariants as expr
use Rattle.ir_types.specs.Same.{same_name}
use Rattle.ir_core.specs.Same.{same_reg}
use Rattle.ir_core.specs.Expressions.{Expr0, atom_has, type_of, operands_in, map_expr}
use Rattle.ir_core.specs.Functions.{name_set}
use Rattle.ir_core.specs.Types.{kind_of}
use Rattle.ir_machine.specs.Machine.{count_made}
use Rattle.ir_machine.specs.Registers.{align_or}
use Rattle.ir_values.specs.Laws.{flags_among}
use Rattle.erhl_assert.specs.declared.facts.Fact.{Fact}
use Rattle.erhl_assert.specs.declared.facts.Fact.TheVariants.{Unique, Private, Ok}
use Rattle.erhl_assert.specs.declared.fact_set.Kill.{Kill}
use Rattle.erhl_assert.specs.declared.fact_set.Kill.TheVariants as kill
use Rattle.erhl_assert.specs.declared.facts.Assertion.{Assertion}
use Rattle.erhl_assert.specs.Sides.{has_reg}
use Rattle.erhl_assert.specs.Facts.{with_facts, both_ways, expr_names}
use Rattle.erhl_assert.specs.Kills.{all_killed, unique_of}
use Rattle.erhl_assert.specs.Matched.{are_matched, now_operand}
use Rattle.erhl_assert.specs.Allowed.{same_operator}
use Rattle.erhl_assert.specs.Alignment.{Line}

-- a load that states no alignment has its type's
abbrev pub with_align : List NamedTy → Expr0 → Expr0
with_align types (expr.Load l) = expr.Load (record l { align = Some (align_or types l.of l.align) })
with_align types (expr.Plain o) = expr.Plain o
with_align types (expr.Binary b) = expr.Binary b
with_align types (expr.Icmp c) = expr.Icmp c
with_align types (expr.Cast c) = expr.Cast c
with_align types (expr.Select s) = expr.Select s
with_align types (expr.Element e) = expr.Element e

-- the right side of a line, as an expression
abbrev pub right_side : List NamedTy → Calm → Expr0
right_side types l = with_align types (map_expr Now l.right)

-- a register of now at a type, as an operand
abbrev pub now_at : Ty → Name → Operand Reg
now_at t x = record { ty = t; atom = atom.Register (Now x) }

-- the register of a line, as an expression
abbrev pub left_side : Calm → Expr0
left_side l = expr.Plain (now_at (type_of l.right) l.name)

-- what is loaded through an operand
abbrev pub load_through : Ty → Operand Reg → ℕ → Expr0
load_through t p align = expr.Load (record { of = t; pointer = p; align = Some align })

-- ---- what goes

-- The operands that a line may give, pass on or store as they are, so that their pointers get a second holder. The address of an access isn't
-- among them, nor is what is compared.
abbrev pub copied_in : Expr Name → List (Atom Name)
copied_in (expr.Icmp c) = []
copied_in (expr.Load l) = []
copied_in e = map (λ (o : Operand Name). o.atom) (operands_in e)

abbrev pub copied_by : Instr → List (Atom Name)
copied_by (line.Calm l) = copied_in l.right
copied_by (line.Alloca a) = []
copied_by (line.Store s) = s.value.atom ∷ []
copied_by (line.Call c) = map (λ (a : Argument). a.operand.atom) c.arguments

abbrev pub naming : Option Name → List Kill
naming None = []
naming (Some x) = kill.Naming (Now x) ∷ []

abbrev pub changing : Instr → List Kill
changing (line.Store s) = kill.Stored (now_operand s.pointer) s.value.ty ∷ []
changing (line.Call c) = kill.Called ∷ []
changing (line.Calm l) = []
changing (line.Alloca a) = []

-- First the facts that name its register go; then that a copied pointer is unique; then those of loads that a store or a call may change.
abbrev pub line_kills : Instr → List Kill
line_kills l = naming (name_set l) ++ (flat_map unique_of (copied_by l) ++ changing l)

-- ---- what comes

-- Where a load through p of a type that has values didn't trap, another access doesn't, unless the line sets p itself. At a type without values
-- a load gives poison, wherever p leads.
abbrev pub accessed : Option Kind → Name → Ty → Operand Reg → ℕ → List Fact
accessed None x t p align = []
accessed (Some k) x t p align = cond (atom_has (same_reg (Now x)) p.atom) [] (Ok (expr.Plain p) t align ∷ [])

abbrev pub accessed_by : List NamedTy → Calm → Expr Name → List Fact
accessed_by types l (expr.Load a) = accessed (kind_of a.of) l.name a.of (now_operand a.pointer) (align_or types a.of a.align)
accessed_by types l e = []

abbrev pub calm_adds : List NamedTy → Calm → List Fact
calm_adds types l = cond (expr_names (Now l.name) (right_side types l)) [] (both_ways (left_side l) (right_side types l)) ++ accessed_by types l l.right

abbrev pub store_adds : Ty → Operand Reg → Operand Reg → ℕ → List Fact
store_adds t v p align = Ok (expr.Plain p) t align ∷ both_ways (load_through t p align) (expr.Plain v)

abbrev pub private_if : Bool → Name → List Fact
private_if one_sided x = cond one_sided (Private (Now x) ∷ []) []

-- A slot of at least one integer or pointer, at an alignment above 0, may be accessed, and holds undef.
abbrev pub slot_adds : Option Kind → ℕ → Ty → Operand Reg → ℕ → List Fact
slot_adds None count t p align = []
slot_adds (Some k) zero t p align = []
slot_adds (Some k) (suc count) t p align = cond (nat_lt 0 align) (store_adds t (record { ty = t; atom = atom.Constant Undef }) p align) []

-- What a line adds, one of one side alone or of both. Of x = e: that they are less defined than each other, where x isn't in e. Of an access: that
-- it doesn't trap; of a store: what is loaded then. Of an alloca: that its pointer is the only one, and what its slot holds.
abbrev pub line_adds : List NamedTy → Bool → Instr → List Fact
line_adds types one_sided (line.Calm l) = calm_adds types l
line_adds types one_sided (line.Store s) = store_adds s.value.ty (now_operand s.value) (now_operand s.pointer) (align_or types s.value.ty s.align)
line_adds types one_sided (line.Alloca a) =
    Unique (Now a.name) ∷ (private_if one_sided a.name ++ slot_adds (kind_of a.of) (count_made a.count) a.of (now_at (Ptr a.of) a.name) (align_or types a.of a.align))
line_adds types one_sided (line.Call c) = []

-- THE facts of a side after its line, which is of this side alone or of both.
abbrev pub facts_after : List NamedTy → Bool → Option Instr → List Fact → List Fact
facts_after types one_sided None fs = fs
facts_after types one_sided (Some l) fs = with_facts (line_adds types one_sided l) (all_killed (line_kills l) fs)

-- ---- what may differ

-- The target's flags are among the source's: beside `add nuw nsw` the target may have `add nuw`, and not the other way round. Right sides
-- without flags agree so.
abbrev pub flags_agree : {R S : Type 0} → Expr R → Expr S → Bool
flags_agree (expr.Binary s) (expr.Binary t) = flags_among t.flags s.flags
flags_agree (expr.Element s) (expr.Element t) = not t.inbounds || s.inbounds
flags_agree s t = true

-- Right sides agree: one operator, one type, flags of the target among the source's, and operands that are matched.
abbrev pub rights_agree : Assertion → Expr Name → Expr Name → Bool
rights_agree known s t = same_operator s t && flags_agree s t && are_matched known (operands_in s) (operands_in t)

-- one register, and right sides that agree
abbrev pub lines_agree : Assertion → Calm → Calm → Bool
lines_agree known s t = same_name s.name t.name && rights_agree known s.right t.right

abbrev pub without_reg : Reg → List Reg → List Reg
without_reg r rs = filter (λ s. not (same_reg r s)) rs

abbrev pub with_reg : Reg → List Reg → List Reg
with_reg r rs = cond (has_reg r rs) rs (rs ++ r ∷ [])

-- A register that both lines define leaves the registers that may differ where the lines agree, as two allocas do. Every other register
-- that is defined enters them.
abbrev pub diff_after : Assertion → Option Instr → Option Instr → List Reg
diff_after known (Some (line.Calm s)) (Some (line.Calm t)) =
    cond (lines_agree known s t) (without_reg (Now s.name) known.diff) (with_reg (Now t.name) (with_reg (Now s.name) known.diff))
diff_after known (Some (line.Calm s)) None = with_reg (Now s.name) known.diff
diff_after known None (Some (line.Calm t)) = with_reg (Now t.name) known.diff
diff_after known (Some (line.Alloca s)) (Some (line.Alloca t)) =
    cond (same_name s.name t.name) (without_reg (Now s.name) known.diff) (with_reg (Now t.name) (with_reg (Now s.name) known.diff))
diff_after known (Some (line.Alloca s)) None = with_reg (Now s.name) known.diff
diff_after known None (Some (line.Alloca t)) = with_reg (Now t.name) known.diff
diff_after known source target = known.diff

-- After an aligned line that is allowed this is known, beside the types of both modules.
abbrev pub after_line : List NamedTy → Assertion → Line → Assertion
after_line types known l = record {
  src = facts_after types (is_none l.target) l.source known.src;
  tgt = facts_after types (is_none l.source) l.target known.tgt;
  diff = diff_after known l.source l.target;
}
