-- What is known on an edge, behind the phis of the block that it enters, from what was known at the end of the block that it leaves
-- (Crellvm: old registers stand for those before the edge).
use Rattle.std.specs.Prelude.{Bool, true, false, ◌&&◌, not, filter, find, List, [], ◌++◌, map, Option, None, Some}
use Rattle.std.specs.List.{list_any, filter_map, flat_map}
use Rattle.ir_types.specs.declared.names.Name.{Name}
use Rattle.ir_core.specs.declared.operands.Atom.TheVariants as atom
use Rattle.ir_types.specs.declared.ty.Ty.{Ty}
use Rattle.ir_core.specs.declared.expressions.Reg.{Reg}
use Rattle.ir_core.specs.declared.expressions.Reg.TheVariants.{Now, Old, Ghost}
use Rattle.ir_core.specs.declared.expressions.Expr.TheVariants as expr
use Rattle.ir_core.specs.declared.functions.Entry.{Entry}
use Rattle.ir_core.specs.declared.functions.Function.{Function}
use Rattle.ir_core.specs.declared.functions.Block.{Block}
use Rattle.ir_core.specs.declared.functions.Phi.{Phi}
use Rattle.ir_core.specs.Expressions.{Expr0, map_atom, map_expr}
use Rattle.ir_types.specs.Same.{same_name, same_ty}
use Rattle.ir_machine.specs.Machine.{block_named, entry_from}
use Rattle.erhl_assert.specs.declared.facts.Fact.{Fact}
use Rattle.erhl_assert.specs.declared.facts.Fact.TheVariants.{LessDef, Unique, Private, NoAlias, Ok}
use Rattle.erhl_assert.specs.declared.fact_set.Kill.{Kill}
use Rattle.erhl_assert.specs.declared.facts.Assertion.{Assertion}
use Rattle.erhl_assert.specs.Facts.{without, with_facts, both_ways}
use Rattle.erhl_assert.specs.Kills.{all_killed, unique_of}
use Rattle.erhl_assert.specs.Matched.{atoms_matched}

-- an edge: the block that it leaves, and the phis of the block that it enters, on the source and on the target
pub record Edge : Type 0 where
  pub from : Name
  pub source : List Phi
  pub target : List Phi

abbrev pub phis_of : Option Block → List Phi
phis_of None = []
phis_of (Some b) = b.phis

abbrev pub phis_at : Name → Function → List Phi
phis_at x f = phis_of (block_named x f.blocks)

-- the edge between two blocks of two functions, by their names
abbrev pub edge_between : Function → Function → Name → Name → Edge
edge_between f g from to = record { from = from; source = phis_at to f; target = phis_at to g }

-- ---- old registers

abbrev pub is_old : Reg → Bool
is_old (Now x) = false
is_old (Old x) = true
is_old (Ghost x) = false

-- a register as it was before the edge; a ghost register stays as it is
abbrev pub old_of : Reg → Reg
old_of (Now x) = Old x
old_of (Old x) = Old x
old_of (Ghost x) = Ghost x

-- What was true before an edge of expressions is true on it of what they were then. `unique` and `private` speak of registers of now alone.
abbrev pub as_old : Fact → Option Fact
as_old (LessDef a b) = Some (LessDef (map_expr old_of a) (map_expr old_of b))
as_old (NoAlias a b) = Some (NoAlias (map_expr old_of a) (map_expr old_of b))
as_old (Ok e t align) = Some (Ok (map_expr old_of e) t align)
as_old (Unique r) = None
as_old (Private r) = None

-- nothing is known of old registers
abbrev pub without_old : Assertion → Assertion
without_old known = record known { src = without is_old known.src; tgt = without is_old known.tgt }

-- ---- phis

abbrev pub sets : Name → Phi → Bool
sets x p = same_name p.name x

-- the register is set by one of the phis
abbrev pub is_of_phi : List Phi → Reg → Bool
is_of_phi ps (Now x) = list_any (sets x) ps
is_of_phi ps (Old x) = false
is_of_phi ps (Ghost x) = false

abbrev pub register_at : Ty → Reg → Expr0
register_at t r = expr.Plain (record { ty = t; atom = atom.Register r })

abbrev pub phi_fact : Phi → Option Entry → List Fact
phi_fact p None = []
phi_fact p (Some e) = both_ways (register_at p.ty (Now p.name)) (expr.Plain (record { ty = p.ty; atom = map_atom Old e.value }))

-- Each phi's register and its operand before the edge are less defined than each other. From block `a` the phi
-- `%x = phi i32 [ %y, %a ], [ 0, %b ]` gives `i32 %x >= i32 old %y` and `i32 old %y >= i32 %x`.
abbrev pub phi_facts : Name → List Phi → List Fact
phi_facts from ps = flat_map (λ (p : Phi). phi_fact p (entry_from from p.entries)) ps

abbrev pub entry_kill : Option Entry → List Kill
entry_kill None = []
entry_kill (Some e) = unique_of e.value

-- what a phi is given on the edge gets a second holder
abbrev pub phi_kills : Name → List Phi → List Kill
phi_kills from ps = flat_map (λ (p : Phi). entry_kill (entry_from from p.entries)) ps

-- ---- facts

-- the facts that name a register of a phi go, and that a phi's operand is unique
abbrev pub past_phis : Name → List Phi → List Fact → List Fact
past_phis from ps fs = all_killed (phi_kills from ps) (without (is_of_phi ps) fs)

-- First the facts that name old registers go. Then the others are copied, with registers as they are now made old. Then those go that the phis
-- take away, and the phis' facts come.
abbrev pub facts_over : Name → List Phi → List Fact → List Fact
facts_over from ps fs =
    let kept = without is_old fs in
    with_facts (phi_facts from ps) (past_phis from ps (with_facts (filter_map as_old kept) kept))

-- ---- registers that may differ

abbrev pub phi_setting : Name → List Phi → Option Phi
phi_setting x ps = find (sets x) ps

abbrev pub entries_match : Assertion → Ty → Option Entry → Option Entry → Bool
entries_match known t (Some d) (Some e) = atoms_matched known t d.value t e.value
entries_match known t None e = false
entries_match known t (Some d) None = false

-- two phis of one type, whose operands from that block are matched
abbrev pub phis_match : Assertion → Name → Option Phi → Option Phi → Bool
phis_match known from (Some p) (Some q) = same_ty p.ty q.ty && entries_match known p.ty (entry_from from p.entries) (entry_from from q.entries)
phis_match known from None q = false
phis_match known from (Some p) None = false

-- both sides set the register by phis that match before the edge
abbrev pub is_alike : Assertion → Edge → Reg → Bool
is_alike known e (Now x) = phis_match known e.from (phi_setting x e.source) (phi_setting x e.target)
is_alike known e (Old x) = false
is_alike known e (Ghost x) = false

abbrev pub phi_registers : List Phi → List Reg
phi_registers ps = map (λ (p : Phi). Now p.name) ps

-- old registers may differ where those that they were may
abbrev pub old_too : List Reg → List Reg
old_too diff =
    let kept = filter (λ r. not (is_old r)) diff in
    kept ++ map old_of kept

-- Registers of phis may differ but for those that both sides set alike, and all others may where they might before.
abbrev pub diff_over : Edge → Assertion → List Reg
diff_over e known = filter (λ r. not (is_alike known e r)) (old_too known.diff ++ (phi_registers e.source ++ phi_registers e.target))

-- THE postcondition of an edge, before its steps
abbrev pub after_edge : Assertion → Edge → Assertion
after_edge known e = record {
  src = facts_over e.from e.source known.src;
  tgt = facts_over e.from e.target known.tgt;
  diff = diff_over e known;
}
