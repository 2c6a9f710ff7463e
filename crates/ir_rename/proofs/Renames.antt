-- The names of a function under other names; a function under its own names is itself.
use Rattle.std.proofs.Common.{◌≡◌, ◌∙◌, List, [], ◌∷◌, ◌++◌, map, Option, None, Some, refl, sym, ap}
use Rattle.std.proofs.lemmas.List.{map-append}
use Rattle.std.proofs.Math.Path.{fun_ext}
use Rattle.std.specs.List.{cons_option, flat_map}
use Rattle.std.specs.Option.{option_map}
use Rattle.ir_core.specs.declared.expressions.Expr.{Expr}
use Rattle.ir_core.specs.declared.expressions.Expr.TheVariants as expr
use Rattle.ir_core.specs.declared.functions.Argument.{Argument}
use Rattle.ir_core.specs.declared.functions.Block.{Block}
use Rattle.ir_core.specs.declared.functions.Case.{Case}
use Rattle.ir_core.specs.declared.functions.Entry.{Entry}
use Rattle.ir_core.specs.declared.functions.Function.{Function}
use Rattle.ir_core.specs.declared.functions.Instr.{Instr}
use Rattle.ir_core.specs.declared.functions.Instr.TheVariants as instr
use Rattle.ir_core.specs.declared.functions.Param.{Param}
use Rattle.ir_core.specs.declared.functions.Phi.{Phi}
use Rattle.ir_core.specs.declared.functions.Term.{Term}
use Rattle.ir_core.specs.declared.functions.Term.TheVariants as term
use Rattle.ir_core.specs.declared.operands.Atom.{Atom}
use Rattle.ir_core.specs.declared.operands.Atom.TheVariants.{Constant, Register}
use Rattle.ir_core.specs.declared.operands.Operand.{Operand}
use Rattle.ir_types.specs.declared.names.Name.{Name}
use Rattle.ir_types.specs.declared.ty.Ty.{Ty}
use Rattle.ir_core.specs.Expressions.{map_atom, map_expr, map_operand, type_of}
use Rattle.ir_core.specs.Functions.{block_names, named_register, names_in, names_of, params_of, phi_registers, register_of, registers_of, set_by}
use Rattle.ir_core.proofs.Mapped.{expressions_are_mapped}
use Rattle.ir_rename.specs.Renamed.{rename_argument, rename_block, rename_case, rename_entry, rename_function, rename_line, rename_param, rename_phi, rename_term}

-- ---- names

pub param_names : (ρ : Name → Name) (ps : List Param) → names_in (map (λ (p : Param). (p.name, p.ty)) (map (rename_param ρ) ps)) ≡ map ρ (names_in (map (λ (p : Param). (p.name, p.ty)) ps))
param_names ρ [] = refl
param_names ρ (p ∷ ps) = ap (λ names. ρ p.name ∷ names) (param_names ρ ps)

pub phi_names : (ρ : Name → Name) (ps : List Phi) → names_in (phi_registers (map (rename_phi ρ) ps)) ≡ map ρ (names_in (phi_registers ps))
phi_names ρ [] = refl
phi_names ρ (p ∷ ps) = ap (λ names. ρ p.name ∷ names) (phi_names ρ ps)

abbrev pub typed : (Name → Name) → Name × Ty → Name × Ty
typed ρ r = (ρ r.0, r.1)

same_type : (ρ : Name → Name) (e : Expr Name) → type_of (map_expr ρ e) ≡ type_of e
same_type ρ (expr.Plain o) = refl
same_type ρ (expr.Binary b) = refl
same_type ρ (expr.Icmp c) = refl
same_type ρ (expr.Cast c) = refl
same_type ρ (expr.Select s) = refl
same_type ρ (expr.Element e) = refl
same_type ρ (expr.Load l) = refl

named_renamed : (ρ : Name → Name) (t : Ty) (name : Option Name) → named_register t (option_map ρ name) ≡ option_map (typed ρ) (named_register t name)
named_renamed ρ t None = refl
named_renamed ρ t (Some name) = refl

register_renamed : (ρ : Name → Name) (l : Instr) → register_of (rename_line ρ l) ≡ option_map (typed ρ) (register_of l)
register_renamed ρ (instr.Calm c) = ap (λ (t : Ty). Some (ρ c.name, t)) (same_type ρ c.right)
register_renamed ρ (instr.Alloca a) = refl
register_renamed ρ (instr.Store s) = refl
register_renamed ρ (instr.Call c) = named_renamed ρ c.result c.name

put_renamed : (ρ : Name → Name) (r : Option (Name × Ty)) (rs : List (Name × Ty)) → cons_option (option_map (typed ρ) r) (map (typed ρ) rs) ≡ map (typed ρ) (cons_option r rs)
put_renamed ρ None rs = refl
put_renamed ρ (Some r) rs = refl

pub line_types : (ρ : Name → Name) (ls : List Instr) → set_by (map (rename_line ρ) ls) ≡ map (typed ρ) (set_by ls)
line_types ρ [] = refl
line_types ρ (l ∷ ls) =
    ap (λ (r : Option (Name × Ty)). cons_option r (set_by (map (rename_line ρ) ls))) (register_renamed ρ l)
    ∙ ap (cons_option (option_map (typed ρ) (register_of l))) (line_types ρ ls)
    ∙ put_renamed ρ (register_of l) (set_by ls)

names_typed : (ρ : Name → Name) (rs : List (Name × Ty)) → names_in (map (typed ρ) rs) ≡ map ρ (names_in rs)
names_typed ρ [] = refl
names_typed ρ (r ∷ rs) = ap (λ names. ρ r.0 ∷ names) (names_typed ρ rs)

pub line_names : (ρ : Name → Name) (ls : List Instr) → names_in (set_by (map (rename_line ρ) ls)) ≡ map ρ (names_in (set_by ls))
line_names ρ ls = ap names_in (line_types ρ ls) ∙ names_typed ρ (set_by ls)

set_names : (b : Block) → names_in (registers_of b) ≡ names_in (phi_registers b.phis) ++ names_in (set_by b.body)
set_names b = map-append (λ register. register.0) (phi_registers b.phis) (set_by b.body)

pub of_block_registers : (ρ : Name → Name) (b : Block) → names_in (registers_of (rename_block ρ b)) ≡ map ρ (names_in (registers_of b))
of_block_registers ρ b =
    set_names (rename_block ρ b)
    ∙ ap (λ names. names ++ names_in (set_by (map (rename_line ρ) b.body))) (phi_names ρ b.phis)
    ∙ ap (λ names. map ρ (names_in (phi_registers b.phis)) ++ names) (line_names ρ b.body)
    ∙ sym (map-append ρ (names_in (phi_registers b.phis)) (names_in (set_by b.body)))
    ∙ ap (map ρ) (sym (set_names b))

of_block : (ρ : Name → Name) (b : Block) → block_names (rename_block ρ b) ≡ map ρ (block_names b)
of_block ρ b = ap (λ names. ρ b.name ∷ names) (of_block_registers ρ b)

of_blocks : (ρ : Name → Name) (bs : List Block) → flat_map block_names (map (rename_block ρ) bs) ≡ map ρ (flat_map block_names bs)
of_blocks ρ [] = refl
of_blocks ρ (b ∷ bs) =
    ap (λ names. names ++ flat_map block_names (map (rename_block ρ) bs)) (of_block ρ b)
    ∙ ap (λ names. map ρ (block_names b) ++ names) (of_blocks ρ bs)
    ∙ sym (map-append ρ (block_names b) (flat_map block_names bs))

pub names_renamed : (ρ : Name → Name) (f : Function) → names_of (rename_function ρ f) ≡ map ρ (names_of f)
names_renamed ρ f =
    ap (λ names. names ++ flat_map block_names (map (rename_block ρ) f.blocks)) (param_names ρ f.params)
    ∙ ap (λ names. map ρ (names_in (params_of f)) ++ names) (of_blocks ρ f.blocks)
    ∙ sym (map-append ρ (names_in (params_of f)) (flat_map block_names f.blocks))

-- ---- under its own names

all_same : {A : Type 0} (f : A → A) → ((x : A) → f x ≡ x) → (xs : List A) → map f xs ≡ xs
all_same f same [] = refl
all_same f same (x ∷ xs) = ap (λ y. y ∷ map f xs) (same x) ∙ ap (λ ys. x ∷ ys) (all_same f same xs)

own_expr : (e : Expr Name) → map_expr (λ r. r) e ≡ e
own_expr = expressions_are_mapped.1

own_atom : (a : Atom Name) → map_atom (λ r. r) a ≡ a
own_atom (Constant c) = refl
own_atom (Register r) = refl

own_operand : (o : Operand Name) → map_operand (λ r. r) o ≡ o
own_operand o = ap (λ (a : Atom Name). record { ty = o.ty; atom = a }) (own_atom o.atom)

own_name : (name : Option Name) → option_map (λ n. n) name ≡ name
own_name None = refl
own_name (Some name) = refl

own_argument : (a : Argument) → rename_argument (λ n. n) a ≡ a
own_argument a = ap (λ (o : Operand Name). record { operand = o; extensions = a.extensions }) (own_operand a.operand)

own_line : (l : Instr) → rename_line (λ n. n) l ≡ l
own_line (instr.Calm c) = ap (λ (e : Expr Name). instr.Calm (record { name = c.name; right = e })) (own_expr c.right)
own_line (instr.Alloca a) = refl
own_line (instr.Store s) =
    ap (λ (o : Operand Name). instr.Store (record { value = o; pointer = map_operand (λ n. n) s.pointer; align = s.align })) (own_operand s.value)
    ∙ ap (λ (o : Operand Name). instr.Store (record { value = s.value; pointer = o; align = s.align })) (own_operand s.pointer)
own_line (instr.Call c) =
    let of : Option Name → List Argument → Instr =
    λ n xs. instr.Call (record { name = n; result = c.result; result_extensions = c.result_extensions; callee = c.callee; arguments = xs }) in
    ap (λ (n : Option Name). of n (map (rename_argument (λ n. n)) c.arguments)) (own_name c.name)
    ∙ ap (of c.name) (all_same (rename_argument (λ n. n)) own_argument c.arguments)

own_entry : (e : Entry) → rename_entry (λ n. n) e ≡ e
own_entry e = ap (λ (a : Atom Name). record { value = a; from = e.from }) (own_atom e.value)

own_phi : (p : Phi) → rename_phi (λ n. n) p ≡ p
own_phi p = ap (λ (es : List Entry). record { name = p.name; ty = p.ty; entries = es }) (all_same (rename_entry (λ n. n)) own_entry p.entries)

own_case : (c : Case) → rename_case (λ n. n) c ≡ c
own_case c = refl

own_term : (t : Term) → rename_term (λ n. n) t ≡ t
own_term (term.Ret operand) = ap term.Ret (own_operand operand)
own_term term.RetVoid = refl
own_term (term.Br label) = refl
own_term (term.CondBr c) =
    ap (λ (o : Operand Name). term.CondBr (record { condition = o; on_true = c.on_true; on_false = c.on_false })) (own_operand c.condition)
own_term (term.Switch s) =
    ap (λ (o : Operand Name). term.Switch (record { value = o; default = s.default; cases = map (rename_case (λ n. n)) s.cases })) (own_operand s.value)
    ∙ ap (λ (cs : List Case). term.Switch (record { value = s.value; default = s.default; cases = cs })) (all_same (rename_case (λ n. n)) own_case s.cases)
own_term term.Unreachable = refl

own_block : (b : Block) → rename_block (λ n. n) b ≡ b
own_block b =
    ap (λ (ps : List Phi). record { name = b.name; phis = ps; body = map (rename_line (λ n. n)) b.body; term = rename_term (λ n. n) b.term }) (all_same (rename_phi (λ n. n)) own_phi b.phis)
    ∙ ap (λ (ls : List Instr). record { name = b.name; phis = b.phis; body = ls; term = rename_term (λ n. n) b.term }) (all_same (rename_line (λ n. n)) own_line b.body)
    ∙ ap (λ (t : Term). record { name = b.name; phis = b.phis; body = b.body; term = t }) (own_term b.term)

own_param : (p : Param) → rename_param (λ n. n) p ≡ p
own_param p = refl

own : (f : Function) → rename_function (λ n. n) f ≡ f
own f =
    ap (λ (ps : List Param). record f { params = ps; blocks = map (rename_block (λ n. n)) f.blocks }) (all_same (rename_param (λ n. n)) own_param f.params)
    ∙ ap (λ (bs : List Block). record f { blocks = bs }) (all_same (rename_block (λ n. n)) own_block f.blocks)

pub stays : (ρ : Name → Name) → ((n : Name) → ρ n ≡ n) → (f : Function) → rename_function ρ f ≡ f
stays ρ same f = ap (λ (σ : Name → Name). rename_function σ f) (fun_ext same) ∙ own f

pub agree : (ρ σ : Name → Name) → ((n : Name) → ρ n ≡ σ n) → (f : Function) → rename_function ρ f ≡ rename_function σ f
agree ρ σ same f = ap (λ (τ : Name → Name). rename_function τ f) (fun_ext same)
