-- Blocks whose lines agree one by one where nothing is known, so that they are valid whatever is known of their registers.
use Rattle.std.specs.Prelude.{ℕ, ◌+◌, ◌*◌, Bool, true, false, ◌&&◌, not, nat_lt, is_none, List, [], ◌∷◌, length, Option, Some}
use Rattle.ir_core.specs.Limits.{fact_limit}
use Rattle.ir_types.specs.Same.{same_list, same_name}
use Rattle.ir_types.specs.declared.names.Name.{Name}
use Rattle.ir_core.specs.declared.expressions.Expr.{Expr}
use Rattle.ir_core.specs.declared.expressions.Expr.TheVariants as expr
use Rattle.ir_core.specs.declared.functions.Instr.{Instr}
use Rattle.ir_core.specs.declared.functions.Instr.TheVariants as line
use Rattle.ir_core.specs.declared.functions.Phi.{Phi}
use Rattle.ir_core.specs.declared.functions.Term.{Term}
use Rattle.erhl_assert.specs.declared.facts.Fact.{Fact}
use Rattle.erhl_assert.specs.declared.facts.Assertion.{Assertion}
use Rattle.erhl_assert.specs.Alignment.{Line, AlignedBlock, no_facts, block_hint}
use Rattle.erhl_assert.specs.Postcondition.{lines_agree}
use Rattle.erhl_assert.specs.Edges.{phis_at, phis_match}
use Rattle.erhl_assert.specs.Steps.{Beside}
use Rattle.erhl_assert.specs.Acceptance.{term_fault}

abbrev pub is_load : Expr Name → Bool
is_load (expr.Load a) = true
is_load e = false

-- a load isn't judged so: it may add three facts a side
abbrev pub instrs_agree : Option Instr → Option Instr → Bool
instrs_agree (Some (line.Calm s)) (Some (line.Calm t)) = not (is_load s.right) && lines_agree no_facts s t
instrs_agree source target = false

-- an aligned line of both sides that agree
abbrev pub line_agrees : Line → Bool
line_agrees l = instrs_agree l.source l.target

abbrev pub all_agree : List Line → Bool
all_agree [] = true
all_agree (l ∷ ls) = line_agrees l && all_agree ls

abbrev pub terms_agree : Term → Term → Bool
terms_agree s t = is_none (term_fault no_facts s t)

-- A line of both sides adds at most four facts.
abbrev pub are_few : List Line → Bool
are_few ls = not (nat_lt fact_limit (4 * length ls))

-- phis of one register, which match on the edge from that block
abbrev pub phi_agrees : Name → Phi → Phi → Bool
phi_agrees from p q = same_name p.name q.name && phis_match no_facts from (Some p) (Some q)

abbrev pub phis_agree : Name → List Phi → List Phi → Bool
phis_agree from ps qs = same_list (phi_agrees from) ps qs

abbrev pub no_fact : List Fact → Bool
no_fact [] = true
no_fact (f ∷ fs) = false

abbrev pub claims_nothing : Assertion → Bool
claims_nothing a = no_fact a.src && no_fact a.tgt

-- An edge behind so many lines: its copies are as many facts again, and a phi of both sides adds at most four.
abbrev pub edge_agrees : Beside → Name → ℕ → Name → Bool
edge_agrees w from lines to =
    not (nat_lt fact_limit (8 * lines + 4 * length (phis_at to w.source)))
    && claims_nothing (block_hint w.hint to).entry
    && phis_agree from (phis_at to w.source) (phis_at to w.target)

abbrev pub edges_agree : Beside → Name → ℕ → List Name → Bool
edges_agree w from lines [] = true
edges_agree w from lines (to ∷ more) = edge_agrees w from lines to && edges_agree w from lines more

abbrev pub block_agrees : Beside → AlignedBlock → List Name → Bool
block_agrees w b labels =
    are_few b.lines
    && all_agree b.lines
    && terms_agree b.source.term b.target.term
    && edges_agree w b.source.name (length b.lines) labels
