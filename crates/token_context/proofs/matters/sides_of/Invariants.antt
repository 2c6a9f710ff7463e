use Rattle.std.proofs.Common.{◌∷◌, drop}
use Rattle.module_grammar.specs.Symbols.{close_paren, kind_of, open_paren, unnamed_addr, void}
use Rattle.token_context.proofs.SideBySide.{IsToldOf}
use Rattle.token_context.specs.Readings.{debug_kind, global_kind}
use Rattle.token_context.proofs.matters.sides_of.Given as goal

-- of those that don't stand side by side yet the first is the one before, or is behind it
abbrev pub invariant-loop-kind : goal.invariant-loop-kind
invariant-loop-kind l = record {
  void : IsToldOf (kind_of void) (kind_of open_paren) l.kinds l.sides.void (l.before ∷ drop l.kind-index l.kinds);
  debug : IsToldOf debug_kind (kind_of open_paren) l.kinds l.sides.debug (l.before ∷ drop l.kind-index l.kinds);
  global : IsToldOf (kind_of close_paren) global_kind l.kinds l.sides.global (l.before ∷ drop l.kind-index l.kinds);
  addr : IsToldOf (kind_of close_paren) (kind_of unnamed_addr) l.kinds l.sides.addr (l.before ∷ drop l.kind-index l.kinds);
}
