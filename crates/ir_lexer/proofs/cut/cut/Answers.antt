-- Each turn cuts the piece at the front of the rest.
use Rattle.std.proofs.Common.{[], ◌∷◌, ◌++◌, ap, ◌∙◌, ◌-◌, ◌<◌, length, take, drop, subst, arith}
use Rattle.ir_lexer.specs.Pieces.{IsWithin}
use Rattle.ir_lexer.proofs.Cuts.{at_space, at_end, at_bad_byte, at_bad_string, at_bad_number, at_gap, at_token, further_on}
use Rattle.ir_lexer.proofs.Order.{up_to, one_more}
use Rattle.ir_lexer.proofs.Those.{are_those}
use Rattle.ir_lexer.proofs.cut.cut.Goals as goal

pub returns-in-End-clause-tokens : goal.returns-in-End-clause-tokens
returns-in-End-clause-tokens c =
    are_those _ _ (at_end _ _ _ c.loop-place.invariant.whole _ c.outline_at.ensures.value c.outline_at.ensures.within c.in-End.is)

pub returns-in-End-clause-order : goal.returns-in-End-clause-order
returns-in-End-clause-order c = up_to 0 c.loop-place.place _ _ c.loop-place.invariant.order (omega arith)

pub loop-place-preserved-then-text-place-eq32 : goal.loop-place-preserved-then-text-place-eq32
loop-place-preserved-then-text-place-eq32 c =
    let inside : c.loop-place.place < length c.args.text.now = omega (arith, c.if-place-text.true) in
    record {
      whole = at_space _ _ _ _ c.loop-place.invariant.whole inside c.if-text-place-eq32.true;
      reached = omega (arith, inside);
      order = up_to 0 c.loop-place.place _ _ c.loop-place.invariant.order (omega arith);
    }

pub loop-place-preserved-in-Gap : goal.loop-place-preserved-in-Gap
loop-place-preserved-in-Gap c =
    let within = subst (λ p. IsWithin p (length (take (length c.args.text.now - c.loop-place.place) (drop c.loop-place.place c.args.text.now)))) c.in-Gap.is c.outline_at.ensures.within in
    record {
      whole = at_gap _ _ _ c.loop-place.invariant.whole _ c.outline_at.ensures.value c.outline_at.ensures.within c.in-Gap.len c.in-Gap.is;
      reached = further_on _ _ _ c.loop-place.invariant.reached within.1;
      order = up_to 0 c.loop-place.place _ _ c.loop-place.invariant.order (omega arith);
    }

pub loop-place-preserved : goal.loop-place-preserved
loop-place-preserved c =
    let within = subst (λ p. IsWithin p (length (take (length c.args.text.now - c.loop-place.place) (drop c.loop-place.place c.args.text.now)))) c.in-Token.is c.outline_at.ensures.within in
    let pushed = c.in_ok-push-in-Token.ensures.items ∙ ap (λ t. c.loop-place.tokens.items ++ t ∷ []) c.token.ensures in
    record {
      whole = at_token _ _ _ c.loop-place.invariant.whole _ c.outline_at.ensures.value c.outline_at.ensures.within c.in-Token.kind c.in-Token.len _ c.in-Token.is pushed;
      reached = further_on _ _ _ c.loop-place.invariant.reached within.1;
      order = one_more _ _ _ c.in-Token.kind c.in-Token.len c.loop-place.invariant.order within.0 pushed;
    }

pub returns-in-BadByte-clause-fault : goal.returns-in-BadByte-clause-fault
returns-in-BadByte-clause-fault c =
    at_bad_byte _ _ _ c.loop-place.invariant.whole _ c.outline_at.ensures.value c.outline_at.ensures.within c.in-BadByte.is

pub overflow_add-result : goal.overflow_add-result
overflow_add-result c =
    let within = subst (λ p. IsWithin p (length (take (length c.args.text.now - c.loop-place.place) (drop c.loop-place.place c.args.text.now)))) c.in-BadString.is c.outline_at.ensures.within in
    let left = further_on _ _ _ c.loop-place.invariant.reached within in
    omega (arith, left)

pub returns-in-BadString-clause-fault : goal.returns-in-BadString-clause-fault
returns-in-BadString-clause-fault c =
    at_bad_string _ _ _ c.loop-place.invariant.whole _ c.outline_at.ensures.value c.outline_at.ensures.within c.in-BadString.offset c.in-BadString.is

pub returns-in-BadNumber-clause-fault : goal.returns-in-BadNumber-clause-fault
returns-in-BadNumber-clause-fault c =
    at_bad_number _ _ _ c.loop-place.invariant.whole _ c.outline_at.ensures.value c.outline_at.ensures.within c.in-BadNumber.is
