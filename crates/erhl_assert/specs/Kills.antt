-- What takes facts away: those that name a register, those of pointers that get a second holder, and those of loads that a store or a call may
-- change (Crellvm's postcondition).
use Rattle.std.specs.Prelude.{Bool, true, false, ◌&&◌, ◌||◌, not, filter, List, [], ◌∷◌, ◌++◌}
use Rattle.std.specs.List.{list_all}
use Rattle.ir_types.specs.declared.names.Name.{Name}
use Rattle.ir_core.specs.declared.expressions.Reg.{Reg}
use Rattle.ir_core.specs.declared.expressions.Reg.TheVariants.{Now, Old, Ghost}
use Rattle.ir_core.specs.declared.expressions.Expr.TheVariants.{Plain, Binary, Icmp, Cast, Select, Element, Load}
use Rattle.ir_core.specs.declared.operands.Atom.{Atom}
use Rattle.ir_core.specs.declared.operands.Atom.TheVariants.{Constant, Register}
use Rattle.ir_core.specs.declared.operands.Operand.{Operand}
use Rattle.ir_core.specs.Expressions.{Expr0}
use Rattle.ir_core.specs.Same.{same_const, same_reg}
use Rattle.erhl_assert.specs.declared.facts.Fact.{Fact}
use Rattle.erhl_assert.specs.declared.facts.Fact.TheVariants.{LessDef, Unique, Private, NoAlias, Ok}
use Rattle.erhl_assert.specs.declared.fact_set.Kill.{Kill}
use Rattle.erhl_assert.specs.declared.fact_set.Kill.TheVariants as kill
use Rattle.erhl_assert.specs.Facts.{has_fact, without_naming}

-- ---- loads

-- the addresses that an expression loads from
abbrev pub loads_in : Expr0 → List (Operand Reg)
loads_in (Load l) = l.pointer ∷ []
loads_in (Plain o) = []
loads_in (Binary b) = []
loads_in (Icmp c) = []
loads_in (Cast c) = []
loads_in (Select s) = []
loads_in (Element e) = []

abbrev pub loads_of : Fact → List (Operand Reg)
loads_of (LessDef a b) = loads_in a ++ loads_in b
loads_of (NoAlias a b) = loads_in a ++ loads_in b
loads_of (Ok e t align) = loads_in e
loads_of (Unique r) = []
loads_of (Private r) = []

-- ---- what a store spares

-- One register is another where class or name differ, whatever the types at which they are stated; two constants are compared whole.
abbrev pub is_other : Atom Reg → Atom Reg → Bool
is_other (Register r) (Register q) = not (same_reg r q)
is_other (Constant c) (Constant d) = not (same_const c d)
is_other (Register r) (Constant d) = true
is_other (Constant c) (Register q) = true

abbrev pub is_now : Reg → Bool
is_now (Now x) = true
is_now (Old x) = false
is_now (Ghost x) = false

-- a register of now, or a constant: what `unique` speaks of beside its own register
abbrev pub is_now_or_constant : Atom Reg → Bool
is_now_or_constant (Constant c) = true
is_now_or_constant (Register r) = is_now r

abbrev pub is_unique : List Fact → Atom Reg → Bool
is_unique fs (Constant c) = false
is_unique fs (Register r) = has_fact (Unique r) fs

abbrev pub is_private : List Fact → Atom Reg → Bool
is_private fs (Constant c) = false
is_private fs (Register r) = has_fact (Private r) fs

-- it is a fact that the two aren't both pointers into one block, as they stand there with their types
abbrev pub are_no_aliases : List Fact → Operand Reg → Operand Reg → Bool
are_no_aliases fs p q = has_fact (NoAlias (Plain p) (Plain q)) fs || has_fact (NoAlias (Plain q) (Plain p)) fs

-- A store through q leaves what is loaded from p: q is another register or constant, and by the facts they aren't both pointers into one block.
abbrev pub spares : List Fact → Operand Reg → Operand Reg → Bool
spares fs q p = is_other q.atom p.atom
    && (are_no_aliases fs p q || (is_unique fs p.atom && is_now_or_constant q.atom) || (is_unique fs q.atom && is_now_or_constant p.atom))

-- ---- kills

-- the facts of which each load passes the test
abbrev pub with_loads : (Operand Reg → Bool) → List Fact → List Fact
with_loads test fs = filter (λ f. list_all test (loads_of f)) fs

abbrev pub is_unique_of : Reg → Fact → Bool
is_unique_of r (Unique q) = same_reg r q
is_unique_of r (Private q) = false
is_unique_of r (LessDef a b) = false
is_unique_of r (NoAlias a b) = false
is_unique_of r (Ok e t align) = false

-- THE facts that a kill leaves. What spares a load is read from those before the kill; each load of a fact needs its own. A call spares loads
-- from private blocks alone.
abbrev pub killed : Kill → List Fact → List Fact
killed (kill.Naming r) fs = without_naming r fs
killed (kill.Unique r) fs = filter (λ f. not (is_unique_of r f)) fs
killed (kill.Stored address of) fs = with_loads (spares fs address) fs
killed kill.Called fs = with_loads (λ p. is_private fs p.atom) fs

-- each kill reads what the one before it left
abbrev pub all_killed : List Kill → List Fact → List Fact
all_killed [] fs = fs
all_killed (k ∷ ks) fs = all_killed ks (killed k fs)

-- ---- operands that are copied

abbrev pub unique_of : Atom Name → List Kill
unique_of (Register x) = kill.Unique (Now x) ∷ []
unique_of (Constant c) = []
