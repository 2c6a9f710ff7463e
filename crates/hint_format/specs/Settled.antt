-- What an address in a hint points to. Its text doesn't say; it is read as where no type has a name, and where the hints meet a module it is what
-- the indices lead to through the types that the module names. Where they lead nowhere it stays as it was read, and has no type.
use Rattle.std.specs.Prelude.{List, map, Option, None, Some}
use Rattle.ir_types.specs.declared.named.NamedTy.{NamedTy}
use Rattle.ir_types.specs.declared.ty.Ty.{Ty}
use Rattle.ir_core.specs.declared.expressions.Element.{Element as ElementOf}
use Rattle.ir_core.specs.declared.expressions.Expr.TheVariants.{Plain, Binary, Icmp, Cast, Select, Element, Load}
use Rattle.ir_core.specs.declared.expressions.Reg.{Reg}
use Rattle.ir_core.specs.Expressions.{Expr0}
use Rattle.ir_core.specs.Typing.{element_type, index_of}
use Rattle.erhl_assert.specs.declared.facts.Assertion.{Assertion}
use Rattle.erhl_assert.specs.declared.facts.Fact.{Fact}
use Rattle.erhl_assert.specs.declared.facts.Fact.TheVariants.{LessDef, Unique, Private, NoAlias, Ok}
use Rattle.erhl_assert.specs.declared.facts.Schema.{Schema}
use Rattle.erhl_assert.specs.declared.hints.FunctionHint.{FunctionHint}
use Rattle.erhl_assert.specs.declared.hints.Hint.{Hint}
use Rattle.erhl_assert.specs.declared.hints.HintBlock.{HintBlock}
use Rattle.erhl_assert.specs.declared.hints.HintEdge.{HintEdge}
use Rattle.erhl_assert.specs.declared.hints.Hints.{Hints}
use Rattle.erhl_assert.specs.declared.hints.HintStep.{HintStep}
use Rattle.erhl_assert.specs.declared.hints.HintStep.TheVariants.{Rule, Ghost, Same}
use Rattle.erhl_assert.specs.declared.hints.PlacedStep.{PlacedStep}

abbrev pub led_or : Ty → Option Ty → Ty
led_or t None = t
led_or t (Some led) = led

abbrev pub settled_address : List NamedTy → ElementOf Reg → ElementOf Reg
settled_address types e = record e { to = led_or e.to (element_type types e.of (map index_of e.indices)) }

abbrev pub settled : List NamedTy → Expr0 → Expr0
settled types (Element e) = Element (settled_address types e)
settled types (Plain o) = Plain o
settled types (Binary b) = Binary b
settled types (Icmp c) = Icmp c
settled types (Cast c) = Cast c
settled types (Select s) = Select s
settled types (Load l) = Load l

-- ---- each expression of hints

abbrev pub settled_fact : List NamedTy → Fact → Fact
settled_fact types (LessDef a b) = LessDef (settled types a) (settled types b)
settled_fact types (Unique r) = Unique r
settled_fact types (Private r) = Private r
settled_fact types (NoAlias a b) = NoAlias (settled types a) (settled types b)
settled_fact types (Ok e t align) = Ok (settled types e) t align

abbrev pub settled_schema : List NamedTy → Schema → Schema
settled_schema types s = record { from = map (settled_fact types) s.from; to = settled_fact types s.to }

abbrev pub settled_step : List NamedTy → HintStep → HintStep
settled_step types (Rule s) = Rule (record s { schema = settled_schema types s.schema })
settled_step types (Ghost s) = Ghost (record s { value = settled types s.value })
settled_step types (Same s) = Same (record s { by = settled types s.by })

abbrev pub settled_placed : List NamedTy → PlacedStep → PlacedStep
settled_placed types p = record p { step = settled_step types p.step }

abbrev pub settled_edge : List NamedTy → HintEdge → HintEdge
settled_edge types e = record e { steps = map (settled_step types) e.steps }

abbrev pub settled_claims : List NamedTy → Assertion → Assertion
settled_claims types known = record known { src = map (settled_fact types) known.src; tgt = map (settled_fact types) known.tgt }

abbrev pub settled_block : List NamedTy → HintBlock → HintBlock
settled_block types b = record b {
  entry = settled_claims types b.entry;
  steps = map (settled_placed types) b.steps;
  edges = map (settled_edge types) b.edges;
}

abbrev pub settled_function : List NamedTy → FunctionHint → FunctionHint
settled_function types f = record f { hint = record { blocks = map (settled_block types) f.hint.blocks } }

abbrev pub settled_hints : List NamedTy → Hints → Hints
settled_hints types hints = record { functions = map (settled_function types) hints.functions }
