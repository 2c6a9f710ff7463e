-- A function under other names: its blocks, lines, types and constants stay, and each name of a parameter, a block or a register
-- becomes another one, where it is defined and where it is used.
use Rattle.std.specs.Prelude.{◌≡◌, List, map, option_map}
use Rattle.std.specs.List.{AllZip, Contains}
use Rattle.ir_core.specs.declared.functions.Alloca.{Alloca}
use Rattle.ir_core.specs.declared.functions.Argument.{Argument}
use Rattle.ir_core.specs.declared.functions.Block.{Block}
use Rattle.ir_core.specs.declared.functions.Call.{Call}
use Rattle.ir_core.specs.declared.functions.Case.{Case}
use Rattle.ir_core.specs.declared.functions.Entry.{Entry}
use Rattle.ir_core.specs.declared.functions.Function.{Function}
use Rattle.ir_core.specs.declared.functions.Instr.{Instr}
use Rattle.ir_core.specs.declared.functions.Instr.TheVariants as instr
use Rattle.ir_core.specs.declared.modules.Module.{Module}
use Rattle.ir_core.specs.declared.functions.Param.{Param}
use Rattle.ir_core.specs.declared.functions.Phi.{Phi}
use Rattle.ir_core.specs.declared.functions.Store.{Store}
use Rattle.ir_core.specs.declared.functions.Term.{Term}
use Rattle.ir_core.specs.declared.functions.Term.TheVariants as term
use Rattle.ir_types.specs.declared.names.Name.{Name}
use Rattle.ir_core.specs.Expressions.{map_atom, map_expr, map_operand}
use Rattle.ir_core.specs.Functions.{names_of}

abbrev pub rename_param : (Name → Name) → Param → Param
rename_param ρ p = record p { name = ρ p.name }

abbrev pub rename_argument : (Name → Name) → Argument → Argument
rename_argument ρ a = record { operand = map_operand ρ a.operand; extensions = a.extensions }

abbrev pub rename_alloca : (Name → Name) → Alloca → Alloca
rename_alloca ρ a = record { name = ρ a.name; of = a.of; to = a.to; count = a.count; align = a.align }

abbrev pub rename_store : (Name → Name) → Store → Store
rename_store ρ s = record { value = map_operand ρ s.value; pointer = map_operand ρ s.pointer; align = s.align }

-- a callee keeps its name, which is none of the function's own
abbrev pub rename_call : (Name → Name) → Call → Call
rename_call ρ c = record {
  name = option_map ρ c.name;
  result = c.result;
  result_extensions = c.result_extensions;
  callee = c.callee;
  arguments = map (rename_argument ρ) c.arguments;
}

abbrev pub rename_line : (Name → Name) → Instr → Instr
rename_line ρ (instr.Calm c) = instr.Calm (record { name = ρ c.name; right = map_expr ρ c.right })
rename_line ρ (instr.Alloca a) = instr.Alloca (rename_alloca ρ a)
rename_line ρ (instr.Store s) = instr.Store (rename_store ρ s)
rename_line ρ (instr.Call c) = instr.Call (rename_call ρ c)

abbrev pub rename_entry : (Name → Name) → Entry → Entry
rename_entry ρ e = record { value = map_atom ρ e.value; from = ρ e.from }

abbrev pub rename_phi : (Name → Name) → Phi → Phi
rename_phi ρ p = record { name = ρ p.name; ty = p.ty; entries = map (rename_entry ρ) p.entries }

abbrev pub rename_case : (Name → Name) → Case → Case
rename_case ρ c = record { ty = c.ty; number = c.number; label = ρ c.label }

abbrev pub rename_term : (Name → Name) → Term → Term
rename_term ρ (term.Ret operand) = term.Ret (map_operand ρ operand)
rename_term ρ term.RetVoid = term.RetVoid
rename_term ρ (term.Br label) = term.Br (ρ label)
rename_term ρ (term.CondBr c) =
    term.CondBr (record { condition = map_operand ρ c.condition; on_true = ρ c.on_true; on_false = ρ c.on_false })
rename_term ρ (term.Switch s) =
    term.Switch (record { value = map_operand ρ s.value; default = ρ s.default; cases = map (rename_case ρ) s.cases })
rename_term ρ term.Unreachable = term.Unreachable

abbrev pub rename_block : (Name → Name) → Block → Block
rename_block ρ b = record {
  name = ρ b.name;
  phis = map (rename_phi ρ) b.phis;
  body = map (rename_line ρ) b.body;
  term = rename_term ρ b.term;
}

abbrev pub rename_function : (Name → Name) → Function → Function
rename_function ρ f = record f { params = map (rename_param ρ) f.params; blocks = map (rename_block ρ) f.blocks }

-- no two of the names become one
abbrev pub IsInjectiveOn : List Name → (Name → Name) → Type 0
IsInjectiveOn names ρ = (a b : Name) → Contains names a → Contains names b → ρ a ≡ ρ b → a ≡ b

-- The function `g` is `f` under other names, and names that differ in `f` differ in `g`.
pub record IsRenamed (ρ : Name → Name) (f g : Function) : Type 0 where
  pub same : g ≡ rename_function ρ f
  pub injective : IsInjectiveOn (names_of f) ρ

-- each function of a module is renamed, by names of its own; its types, globals and declarations stay, and so do the names of its functions
pub record AreRenamed (m n : Module) : Type 0 where
  pub types : n.types ≡ m.types
  pub globals : n.globals ≡ m.globals
  pub declarations : n.declarations ≡ m.declarations
  pub functions : AllZip (λ f g. (ρ : Name → Name) × IsRenamed ρ f g) m.functions n.functions
