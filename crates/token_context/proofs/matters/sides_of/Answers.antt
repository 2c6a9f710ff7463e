use Rattle.std.proofs.Common.{drop, refl}
use Rattle.std.proofs.lemmas.List.{drop_all, drop_more}
use Rattle.module_grammar.specs.Symbols.{close_paren, kind_of, open_paren, unnamed_addr, void}
use Rattle.token_context.proofs.SideBySide.{told_all, told_first, told_further}
use Rattle.token_context.specs.Readings.{debug_kind, global_kind}
use Rattle.token_context.proofs.matters.sides_of.Goals as goal

pub loop-kind-init : goal.loop-kind-init
loop-kind-init c = record {
  void = told_first (kind_of void) (kind_of open_paren) 23 c.args.kinds.now refl;
  debug = told_first debug_kind (kind_of open_paren) 23 c.args.kinds.now refl;
  global = told_first (kind_of close_paren) global_kind 23 c.args.kinds.now refl;
  addr = told_first (kind_of close_paren) (kind_of unnamed_addr) 23 c.args.kinds.now refl;
}

pub loop-kind-preserved : goal.loop-kind-preserved
loop-kind-preserved c =
    let left = drop_more c.args.kinds.now c.loop-kind.kind-index 0 c.loop-kind-test.true in record {
      void = told_further (kind_of void) (kind_of open_paren) c.args.kinds.now c.loop-kind.sides.void c.loop-kind.before _ _ _ left c.loop-kind.invariant.void;
      debug = told_further debug_kind (kind_of open_paren) c.args.kinds.now c.loop-kind.sides.debug c.loop-kind.before _ _ _ left c.loop-kind.invariant.debug;
      global = told_further (kind_of close_paren) global_kind c.args.kinds.now c.loop-kind.sides.global c.loop-kind.before _ _ _ left c.loop-kind.invariant.global;
      addr = told_further (kind_of close_paren) (kind_of unnamed_addr) c.args.kinds.now c.loop-kind.sides.addr c.loop-kind.before _ _ _ left c.loop-kind.invariant.addr;
    }

pub returns-clause-void : goal.returns-clause-void
returns-clause-void c =
    told_all (kind_of void) (kind_of open_paren) c.args.kinds.now c.loop-kind.sides.void c.loop-kind.before (drop c.loop-kind.kind-index c.args.kinds.now)
    (drop_all c.loop-kind.kind-index c.args.kinds.now c.loop-kind-test.false) c.loop-kind.invariant.void

pub returns-clause-debug : goal.returns-clause-debug
returns-clause-debug c =
    told_all debug_kind (kind_of open_paren) c.args.kinds.now c.loop-kind.sides.debug c.loop-kind.before (drop c.loop-kind.kind-index c.args.kinds.now)
    (drop_all c.loop-kind.kind-index c.args.kinds.now c.loop-kind-test.false) c.loop-kind.invariant.debug

pub returns-clause-global : goal.returns-clause-global
returns-clause-global c =
    told_all (kind_of close_paren) global_kind c.args.kinds.now c.loop-kind.sides.global c.loop-kind.before (drop c.loop-kind.kind-index c.args.kinds.now)
    (drop_all c.loop-kind.kind-index c.args.kinds.now c.loop-kind-test.false) c.loop-kind.invariant.global

pub returns-clause-addr : goal.returns-clause-addr
returns-clause-addr c =
    told_all (kind_of close_paren) (kind_of unnamed_addr) c.args.kinds.now c.loop-kind.sides.addr c.loop-kind.before (drop c.loop-kind.kind-index c.args.kinds.now)
    (drop_all c.loop-kind.kind-index c.args.kinds.now c.loop-kind-test.false) c.loop-kind.invariant.addr
