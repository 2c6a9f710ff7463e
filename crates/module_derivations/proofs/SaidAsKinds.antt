-- What a token says is seen where it is written down; where it isn't, it says nothing.
use Rattle.std.proofs.Common.{◌≡◌, ℕ, zero, suc, true, false, List, ◌∷◌, refl, sym, subst}
use Rattle.module_grammar.specs.Kinds as by_kind
use Rattle.module_grammar.specs.Kinds.{Kind, Says, kind, symbol_by}
use Rattle.module_derivations.specs.Ahead.{says, seeing}
use Rattle.module_derivations.specs.Parts.{Part}
use Rattle.module_derivations.specs.Said.{said_as}
use Rattle.module_derivations.specs.Empty.{said}
use Rattle.module_grammar.specs.Symbols.{Symbol}

said_back : (x : Kind) (k : ℕ) (c : Says x) → said_as x (symbol_by x k c) ≡ c
said_back by_kind.Local k c = refl
said_back by_kind.Global k c = refl
said_back by_kind.Debug k c = refl
said_back by_kind.Label k c = refl
said_back by_kind.Number k c = refl
said_back by_kind.Width k c = refl
said_back by_kind.Truth k c = refl
said_back by_kind.Bytes k c = refl
said_back by_kind.Overflow k c = refl
said_back by_kind.Exact k c = refl
said_back by_kind.Plain k c = refl
said_back by_kind.Resize k c = refl
said_back by_kind.Pred k c = refl
said_back by_kind.Flag k c = refl
said_back by_kind.Linkage k c = refl
said_back by_kind.Extension k c = refl
said_back by_kind.Holding k c = refl
said_back by_kind.Star k c = refl
said_back by_kind.Bracket k c = refl
said_back by_kind.Brace k c = refl
said_back by_kind.Null k c = refl
said_back by_kind.Element k c = refl
said_back by_kind.BitCast k c = refl
said_back by_kind.Alone k c = refl

pub kept : (k : ℕ) (c : Says (kind k)) (ps : List Part) → says k ≡ true → seeing.content k (seeing.leaf (symbol_by (kind k) k c) ∷ ps) ≡ c
kept k c ps e = said_back (kind k) k c

alone : (k : ℕ) → says k ≡ false → kind k ≡ by_kind.Alone
alone zero e = cc
alone (suc (zero)) e = cc
alone (suc (suc (zero))) e = cc
alone (suc (suc (suc (zero)))) e = cc
alone (suc (suc (suc (suc (zero))))) e = cc
alone (suc (suc (suc (suc (suc (zero)))))) e = cc
alone (suc (suc (suc (suc (suc (suc (zero))))))) e = cc
alone (suc (suc (suc (suc (suc (suc (suc (zero)))))))) e = cc
alone (suc (suc (suc (suc (suc (suc (suc (suc (zero))))))))) e = cc
alone (suc (suc (suc (suc (suc (suc (suc (suc (suc (zero)))))))))) e = cc
alone (suc (suc (suc (suc (suc (suc (suc (suc (suc (suc (zero))))))))))) e = cc
alone (suc (suc (suc (suc (suc (suc (suc (suc (suc (suc (suc (zero)))))))))))) e = cc
alone (suc (suc (suc (suc (suc (suc (suc (suc (suc (suc (suc (suc (zero))))))))))))) e = cc
alone (suc (suc (suc (suc (suc (suc (suc (suc (suc (suc (suc (suc (suc (zero)))))))))))))) e = cc
alone (suc (suc (suc (suc (suc (suc (suc (suc (suc (suc (suc (suc (suc (suc (zero))))))))))))))) e = cc
alone (suc (suc (suc (suc (suc (suc (suc (suc (suc (suc (suc (suc (suc (suc (suc (zero)))))))))))))))) e = cc
alone (suc (suc (suc (suc (suc (suc (suc (suc (suc (suc (suc (suc (suc (suc (suc (suc (zero))))))))))))))))) e = cc
alone (suc (suc (suc (suc (suc (suc (suc (suc (suc (suc (suc (suc (suc (suc (suc (suc (suc (zero)))))))))))))))))) e = cc
alone (suc (suc (suc (suc (suc (suc (suc (suc (suc (suc (suc (suc (suc (suc (suc (suc (suc (suc (zero))))))))))))))))))) e = cc
alone (suc (suc (suc (suc (suc (suc (suc (suc (suc (suc (suc (suc (suc (suc (suc (suc (suc (suc (suc (zero)))))))))))))))))))) e = cc
alone (suc (suc (suc (suc (suc (suc (suc (suc (suc (suc (suc (suc (suc (suc (suc (suc (suc (suc (suc (suc (zero))))))))))))))))))))) e = cc
alone (suc (suc (suc (suc (suc (suc (suc (suc (suc (suc (suc (suc (suc (suc (suc (suc (suc (suc (suc (suc (suc (zero)))))))))))))))))))))) e = cc
alone (suc (suc (suc (suc (suc (suc (suc (suc (suc (suc (suc (suc (suc (suc (suc (suc (suc (suc (suc (suc (suc (suc (zero))))))))))))))))))))))) e = cc
alone (suc (suc (suc (suc (suc (suc (suc (suc (suc (suc (suc (suc (suc (suc (suc (suc (suc (suc (suc (suc (suc (suc (suc (k)))))))))))))))))))))))) e = refl

nothing_said : (x : Kind) → x ≡ by_kind.Alone → (c : Says x) (s : Symbol) → said_as x s ≡ c
nothing_said x e = subst (λ x. (c : Says x) (s : Symbol) → said_as x s ≡ c) (sym e) (λ c s. refl)

pub plain : (k : ℕ) (c : Says (kind k)) (ps : List Part) → says k ≡ false → seeing.content k ps ≡ c
plain k c ps e = nothing_said (kind k) (alone k e) c (said ps)
