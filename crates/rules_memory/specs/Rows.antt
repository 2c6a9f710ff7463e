-- What the rules of memory take, as tests that compute. In each row an operand that stands twice is the same one, with its type.
use Rattle.std.specs.Prelude.{ℕ, Bool, true, false, ◌&&◌, ◌||◌, not, cond, nat_eq, nat_le, nat_lt, codes, List, [], ◌∷◌, ◌%◌, Option, None, Some}
use Rattle.ir_types.specs.declared.names.Name.{Name}
use Rattle.ir_types.specs.Named.{size_of}
use Rattle.ir_types.specs.Same.{same_name, same_ty}
use Rattle.ir_core.specs.declared.modules.GlobalVar.{GlobalVar}
use Rattle.ir_core.specs.declared.operands.Atom.{Atom}
use Rattle.ir_core.specs.declared.operands.Atom.TheVariants as atom
use Rattle.ir_core.specs.declared.operands.CastOp.{CastOp}
use Rattle.ir_core.specs.declared.operands.CastOp.TheVariants as conversion
use Rattle.ir_core.specs.declared.operands.Const.TheVariants as constant
use Rattle.ir_core.specs.declared.operands.Operand.{Operand}
use Rattle.ir_core.specs.declared.expressions.Load.{Load as LoadOf}
use Rattle.ir_core.specs.declared.expressions.Reg.{Reg}
use Rattle.ir_core.specs.declared.expressions.Reg.TheVariants.{Now, Old, Ghost}
use Rattle.ir_core.specs.declared.expressions.Expr.TheVariants.{Plain, Binary, Icmp, Cast, Select, Element, Load}
use Rattle.ir_core.specs.declared.values.Kind.{Kind}
use Rattle.ir_core.specs.Expressions.{Expr0}
use Rattle.ir_core.specs.Same.{same_operand, same_reg}
use Rattle.ir_core.specs.Types.{is_pointer, kind_of}
use Rattle.ir_values.specs.Constants.{Scope}
use Rattle.block_memory.specs.Bytes.{byte_count}
use Rattle.ir_machine.specs.Registers.{align_or}
use Rattle.erhl_assert.specs.declared.facts.Fact.{Fact}
use Rattle.erhl_assert.specs.declared.facts.Fact.TheVariants.{LessDef, Unique, Private, NoAlias, Ok}
use Rattle.erhl_assert.specs.declared.facts.Schema.{Schema}
use Rattle.rule_base.specs.Rows.{have_one_type, is_typed}
use Rattle.rules_memory.specs.declared.rules.MemoryRule.{MemoryRule}
use Rattle.rules_memory.specs.declared.rules.MemoryRule.TheVariants.{GepZero, NoAliasUnique, NoAliasSwap, NoAliasDerived, NoAliasGlobals, PrivateDerived, OkAlign, OkCast, OkGlobal, LoadAlign, LoadOk}

-- ---- words

-- two operands that each have a type, and are of it where they are constants
abbrev pub are_operands : Scope → Operand Reg → Operand Reg → Bool
are_operands scope p q = is_typed scope (Plain p) && is_typed scope (Plain q)

abbrev pub same : Operand Reg → Operand Reg → Bool
same p q = same_operand same_reg p q

-- whatever may be accessed at an alignment of a may be at one of b: it is above 0, and b divides a
abbrev pub divides : ℕ → ℕ → Bool
divides b a = nat_lt 0 b && nat_eq (a % b) 0

abbrev pub is_zero : Atom Reg → Bool
is_zero (atom.Constant (constant.Number n)) = nat_eq n 0
is_zero (atom.Constant c) = false
is_zero (atom.Register r) = false

-- the global whose address the operand is
abbrev pub global_in : Atom Reg → Option Name
global_in (atom.Constant (constant.Global x)) = Some x
global_in (atom.Constant c) = None
global_in (atom.Register r) = None

-- the register of now that the operand is
abbrev pub now_in : Atom Reg → Option Name
now_in (atom.Register (Now x)) = Some x
now_in (atom.Register (Old x)) = None
now_in (atom.Register (Ghost x)) = None
now_in (atom.Constant c) = None

abbrev pub is_name : Name → Option Name → Bool
is_name x None = false
is_name x (Some y) = same_name x y

abbrev pub are_two : Option Name → Option Name → Bool
are_two (Some x) (Some y) = not (same_name x y)
are_two None y = false
are_two (Some x) None = false

abbrev pub is_there : Option Name → Bool
is_there None = false
is_there (Some x) = true

abbrev pub is_recast : CastOp → Bool
is_recast conversion.BitCast = true
is_recast conversion.ZExt = false
is_recast conversion.SExt = false
is_recast conversion.Trunc = false

-- it is an address within what p points to, or p at another type: `getelementptr p, ..` or `bitcast p`
abbrev pub is_derived : Expr0 → (Operand Reg → Bool) → Bool
is_derived (Element e) is_base = is_base e.base
is_derived (Cast c) is_base = is_recast c.op && is_base c.operand
is_derived (Plain o) is_base = false
is_derived (Binary b) is_base = false
is_derived (Icmp c) is_base = false
is_derived (Select s) is_base = false
is_derived (Load l) is_base = false

-- the alignment of a load: its type's where none is stated
abbrev pub alignment : Scope → LoadOf Reg → ℕ
alignment scope l = align_or scope.types l.of l.align

-- two loads of one type through one pointer
abbrev pub are_of_one : LoadOf Reg → LoadOf Reg → Bool
are_of_one l m = same_ty l.of m.of && same l.pointer m.pointer

-- ---- rows

abbrev pub is_one_zero : List (Operand Reg) → Bool
is_one_zero [] = false
is_one_zero (i ∷ []) = is_zero i.atom
is_one_zero (i ∷ j ∷ is) = false

-- `getelementptr F T, p, 0 >= p`, by one index 0 of whatever width
abbrev pub is_gep_zero : Scope → List Fact → Fact → Bool
is_gep_zero scope [] (LessDef (Element e) (Plain p)) = have_one_type scope (Element e) (Plain p) && same e.base p && is_one_zero e.indices
is_gep_zero scope from to = false

-- `unique p` to `noalias p, q`, p a register of now, q another one or a global. Of another register nothing is known to be unique.
abbrev pub is_noalias_unique : Scope → List Fact → Fact → Bool
is_noalias_unique scope (Unique (Now x) ∷ []) (NoAlias (Plain p) (Plain q)) =
    are_operands scope p q && is_name x (now_in p.atom) && (are_two (Some x) (now_in q.atom) || is_there (global_in q.atom))
is_noalias_unique scope from to = false

-- `noalias p, q` to `noalias q, p`
abbrev pub is_noalias_swap : Scope → List Fact → Fact → Bool
is_noalias_swap scope (NoAlias (Plain p) (Plain q) ∷ []) (NoAlias (Plain r) (Plain s)) = are_operands scope p q && same p s && same q r
is_noalias_swap scope from to = false

-- `noalias p, q` and `r >= getelementptr p, ..` or `r >= bitcast p` to `noalias r, q`, r at a pointer type. Where r is undef nothing is said.
abbrev pub is_noalias_derived : Scope → List Fact → Fact → Bool
is_noalias_derived scope (NoAlias (Plain p) (Plain q) ∷ LessDef (Plain r) e ∷ []) (NoAlias (Plain s) (Plain t)) =
    are_operands scope p q && have_one_type scope (Plain r) e && is_pointer r.ty && is_derived e (same p) && same r s && same q t
is_noalias_derived scope from to = false

-- `noalias @g, @h`, of two globals
abbrev pub is_noalias_globals : Scope → List Fact → Fact → Bool
is_noalias_globals scope [] (NoAlias (Plain p) (Plain q)) = are_operands scope p q && are_two (global_in p.atom) (global_in q.atom)
is_noalias_globals scope from to = false

-- `private p` and `r >= getelementptr p, ..` or `r >= bitcast p` to `private r`, both registers of now, r at a pointer type
abbrev pub is_private_derived : Scope → List Fact → Fact → Bool
is_private_derived scope (Private (Now x) ∷ LessDef (Plain r) e ∷ []) (Private (Now y)) =
    have_one_type scope (Plain r) e && is_pointer r.ty && is_derived e (λ o. is_name x (now_in o.atom)) && is_name y (now_in r.atom)
is_private_derived scope from to = false

-- `ok p, T, a` to `ok p, T, b`, b dividing a
abbrev pub is_ok_align : Scope → List Fact → Fact → Bool
is_ok_align scope (Ok (Plain p) t a ∷ []) (Ok (Plain q) u b) = is_typed scope (Plain p) && same p q && same_ty t u && divides b a
is_ok_align scope from to = false

-- `ok p, T, a` and `bitcast p >= r` to `ok r, T, a`: r is the pointer
abbrev pub is_ok_cast : Scope → List Fact → Fact → Bool
is_ok_cast scope (Ok (Plain p) t a ∷ LessDef (Cast c) (Plain r) ∷ []) (Ok (Plain s) u b) =
    is_typed scope (Plain p) && have_one_type scope (Cast c) (Plain r) && is_recast c.op && same p c.operand && same r s && same_ty t u && nat_eq a b
is_ok_cast scope from to = false

-- the first global of that name
abbrev pub global_named : List GlobalVar → Name → Option GlobalVar
global_named [] x = None
global_named (g ∷ gs) x = cond (same_name g.name x) (Some g) (global_named gs x)

-- an access of the kind at the start of the global: its bytes lie in it, and the alignment divides the global's
abbrev pub lies_in : Scope → Option Kind → ℕ → Option GlobalVar → Bool
lies_in scope None a g = false
lies_in scope (Some k) a None = false
lies_in scope (Some k) a (Some g) = nat_le (byte_count k) (size_of scope.types g.ty) && divides a (align_or scope.types g.ty g.align)

abbrev pub global_behind : Scope → Option Name → Option GlobalVar
global_behind scope None = None
global_behind scope (Some x) = global_named scope.globals x

-- `ok @g, T, a`: the bytes of T fit in the global, and a divides its alignment
abbrev pub is_ok_global : Scope → List Fact → Fact → Bool
is_ok_global scope [] (Ok (Plain p) t a) = is_typed scope (Plain p) && lies_in scope (kind_of t) a (global_behind scope (global_in p.atom))
is_ok_global scope from to = false

-- `load T, p, a >= load T, p, b`, b dividing a
abbrev pub is_load_align : Scope → List Fact → Fact → Bool
is_load_align scope [] (LessDef (Load l) (Load m)) =
    have_one_type scope (Load l) (Load m) && are_of_one l m && divides (alignment scope m) (alignment scope l)
is_load_align scope from to = false

-- `ok p, T, a` to `load T, p, b >= load T, p, a`, whatever b is
abbrev pub is_load_ok : Scope → List Fact → Fact → Bool
is_load_ok scope (Ok (Plain p) t a ∷ []) (LessDef (Load l) (Load m)) =
    have_one_type scope (Load l) (Load m) && are_of_one l m && same p m.pointer && same_ty t m.of && nat_eq a (alignment scope m)
is_load_ok scope from to = false

-- ---- the table

abbrev pub rule_name : MemoryRule → List ℕ
rule_name GepZero = codes "gep_zero"
rule_name NoAliasUnique = codes "noalias_unique"
rule_name NoAliasSwap = codes "noalias_swap"
rule_name NoAliasDerived = codes "noalias_derived"
rule_name NoAliasGlobals = codes "noalias_globals"
rule_name PrivateDerived = codes "private_derived"
rule_name OkAlign = codes "ok_align"
rule_name OkCast = codes "ok_cast"
rule_name OkGlobal = codes "ok_global"
rule_name LoadAlign = codes "load_align"
rule_name LoadOk = codes "load_ok"

abbrev pub takes_row : MemoryRule → Scope → Schema → Bool
takes_row GepZero scope schema = is_gep_zero scope schema.from schema.to
takes_row NoAliasUnique scope schema = is_noalias_unique scope schema.from schema.to
takes_row NoAliasSwap scope schema = is_noalias_swap scope schema.from schema.to
takes_row NoAliasDerived scope schema = is_noalias_derived scope schema.from schema.to
takes_row NoAliasGlobals scope schema = is_noalias_globals scope schema.from schema.to
takes_row PrivateDerived scope schema = is_private_derived scope schema.from schema.to
takes_row OkAlign scope schema = is_ok_align scope schema.from schema.to
takes_row OkCast scope schema = is_ok_cast scope schema.from schema.to
takes_row OkGlobal scope schema = is_ok_global scope schema.from schema.to
takes_row LoadAlign scope schema = is_load_align scope schema.from schema.to
takes_row LoadOk scope schema = is_load_ok scope schema.from schema.to
