-- Each constant, initialiser and value that is written has a derivation.
use Rattle.std.proofs.Common.{Bool, true, false, List, [], ◌∷◌, refl}
use Rattle.module_grammar.specs.declared.constants.ConstText.{ConstText}
use Rattle.module_grammar.specs.declared.constants.GlobalNameText.{GlobalNameText}
use Rattle.module_grammar.specs.declared.constants.GlobalNameText.TheVariants as global
use Rattle.module_grammar.specs.declared.constants.InitText.{InitText}
use Rattle.module_grammar.specs.declared.constants.IntText.{IntText}
use Rattle.module_grammar.specs.declared.constants.IntText.TheVariants as integer
use Rattle.module_grammar.specs.declared.constants.OperandText.{OperandText}
use Rattle.module_grammar.specs.declared.constants.Tag.TheVariants.{Old, Ghost}
use Rattle.module_grammar.specs.declared.constants.ValueText.{ValueText}
use Rattle.module_grammar.specs.declared.constants.ValueText.TheVariants as text
use Rattle.module_grammar.specs.declared.types.TypeText.{TypeText}
use Rattle.module_grammar.specs.Rules.{meaning}
use Rattle.module_grammar.proofs.ConstFolds as of_const
use Rattle.module_grammar.proofs.InitFolds as of_init
use Rattle.module_grammar.proofs.Lawful.{by}
use Rattle.module_grammar.proofs.TypesMade.{ty}
use Rattle.predictive.specs.Made.{Made}

pub int : (x : IntText) → Made meaning 43 x
int (integer.Number n) = by 95 refl _ tt
int (integer.Truth b) = by 96 refl _ tt

pub global_name : (x : GlobalNameText) → Made meaning 42 x
global_name (global.Plain name) = by 93 refl _ tt
global_name (global.Debug name) = by 94 refl _ tt

pub inbounds : (x : Bool) → Made meaning 44 x
inbounds false = by 97 refl _ tt
inbounds true = by 98 refl _ tt

abbrev IsMade : ConstText → Type 0
IsMade c = Made meaning 45 c

consts_by : (cs : List (TypeText × ConstText)) → of_const.EachOf IsMade cs → Made meaning 46 cs
consts_by [] made = by 105 refl _ tt
consts_by (c ∷ cs) made = by 106 refl (tt, (c.0, (c.1, (cs, tt)))) (ty c.0, (made.0, (consts_by cs made.1, tt)))

pub const : (c : ConstText) → Made meaning 45 c
const =
    of_const.by_parts IsMade
    (λ i. by 99 refl (i, tt) (int i, tt))
    (λ at. by 100 refl (at, tt) tt)
    (by 101 refl (tt, tt) tt)
    (λ name. by 102 refl (name, tt) (global_name name, tt))
    (λ at is_inbounds of base_ty base indices of_base of_indices.
    by 103 refl (at, (is_inbounds, (tt, (of, (tt, (base_ty, (base, (indices, (tt, tt)))))))))
    (inbounds is_inbounds, (ty of, (ty base_ty, (of_base, (consts_by indices of_indices, tt))))))
    (λ at from c target made. by 104 refl (at, (tt, (from, (c, (tt, (target, (tt, tt))))))) (ty from, (made, (ty target, tt))))

abbrev IsInit : InitText → Type 0
IsInit i = Made meaning 47 i

more_inits_by : (parts : List (TypeText × InitText)) → of_init.EachOf IsInit parts → Made meaning 49 parts
more_inits_by [] made = by 114 refl _ tt
more_inits_by (i ∷ parts) made = by 115 refl (tt, (i.0, (i.1, (parts, tt)))) (ty i.0, (made.0, (more_inits_by parts made.1, tt)))

inits_by : (parts : List (TypeText × InitText)) → of_init.EachOf IsInit parts → Made meaning 48 parts
inits_by [] made = by 112 refl _ tt
inits_by (i ∷ parts) made = by 113 refl (i.0, (i.1, (parts, tt))) (ty i.0, (made.0, (more_inits_by parts made.1, tt)))

pub init : (i : InitText) → Made meaning 47 i
init =
    of_init.by_parts IsInit
    (λ c. by 107 refl (c, tt) (const c, tt))
    (by 108 refl (tt, tt) tt)
    (λ bytes. by 109 refl (tt, (bytes, tt)) tt)
    (λ at parts made. by 110 refl (at, (parts, (tt, tt))) (inits_by parts made, tt))
    (λ at parts made. by 111 refl (at, (parts, (tt, tt))) (inits_by parts made, tt))

pub value : (x : ValueText) → Made meaning 50 x
value (text.Const c) = by 116 refl _ (const c, tt)
value (text.Local name) = by 117 refl _ tt
value (text.Tagged Old name) = by 118 refl _ tt
value (text.Tagged Ghost name) = by 119 refl _ tt

pub operand : (x : OperandText) → Made meaning 51 x
operand o = by 120 refl _ (ty o.ty, (value o.value, tt))

more_operands : (x : List OperandText) → Made meaning 75 x
more_operands [] = by 176 refl _ tt
more_operands (o ∷ os) = by 177 refl _ (operand o, (more_operands os, tt))

pub indices : (x : List OperandText) → Made meaning 75 x
indices = more_operands
