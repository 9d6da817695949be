-- What the walks over pieces say of a pattern is what the grammar and the conditions say.
use Rattle.std.proofs.Common.{◌≡◌, ℕ, true, List, [], Option, Some, None, refl, sym, subst, ◌∙◌}
use Rattle.std.specs.Prelude.{MatchOption}
use Rattle.regex_patterns.specs.declared.mode.Mode.{Mode}
use Rattle.regex_patterns.specs.declared.fault.Wrong.{Wrong}
use Rattle.regex_patterns.specs.declared.piece.Placed.{Placed}
use Rattle.regex_patterns.specs.Pieces.{pieces}
use Rattle.regex_patterns.specs.Grammar.{Tree, Derives, Disjunction}
use Rattle.regex_patterns.specs.Conditions.{are_distinct, numbers_fit, group_names, are_known, has_names}
use Rattle.regex_patterns.specs.Patterns.{IsPattern, AreGood, HasNames}
use Rattle.regex_patterns.proofs.Accepting.{complete, derived}
use Rattle.regex_patterns.proofs.Distinct.{distinct}

module _ (m : Mode) (xs : List ℕ) where
  abbrev pub AreRead : List Placed → Option Wrong → Type 0
  AreRead ps wrong = MatchOption wrong (pieces m xs ≡ Some ps) (λ w. pieces m xs ≡ None)

  is_read : (ps : List Placed) (wrong : Option Wrong) → AreRead ps wrong → wrong ≡ None → pieces m xs ≡ Some ps
  is_read ps None read is = read
  is_read ps (Some w) read is = let bad : ⊥ = cc in absurd bad

  same_pieces : (ps qs : List Placed) (wrong : Option Wrong) → AreRead ps wrong → pieces m xs ≡ Some qs → (ps ≡ qs) × (wrong ≡ None)
  same_pieces ps qs None read is = (let both : Some ps ≡ Some qs = sym read ∙ is in (let k : ps ≡ qs = cc in k), refl)
  same_pieces ps qs (Some w) read is = let bad : ⊥ = (let k = sym read ∙ is in cc) in absurd bad

  pub pattern_of : (ps : List Placed) (wrong : Option Wrong) → AreRead ps wrong → AreGood m xs ps wrong → IsPattern m xs
  pattern_of ps wrong read good =
      let d = derived m ps good.1 in
      record {
        ps = ps;
        tree = d.0;
        read = is_read ps wrong read good.0;
        derived = d.1;
        distinct = sym (distinct xs d.1) ∙ good.2;
        numbers = good.3;
        known = good.4;
      }

  good_at : (ps qs : List Placed) → ps ≡ qs → (wrong : Option Wrong) → wrong ≡ None → (t : Tree) → Derives m Disjunction qs [] t
      → are_distinct xs t ≡ true → (m.unicode ≡ true → numbers_fit qs ≡ true) → are_known xs (group_names xs qs) qs ≡ true
      → AreGood m xs ps wrong
  good_at ps qs same wrong none t d one-each numbers known =
      subst (λ rs. AreGood m xs rs wrong) (sym same)
      (none, complete m d, distinct xs d ∙ one-each, numbers, known)

  pub good_of : (ps : List Placed) (wrong : Option Wrong) → AreRead ps wrong → IsPattern m xs → AreGood m xs ps wrong
  good_of ps wrong read p =
      let k = same_pieces ps p.ps wrong read p.read in
      good_at ps p.ps k.0 wrong k.1 p.tree p.derived p.distinct p.numbers p.known

  pub names_of : (ps : List Placed) (wrong : Option Wrong) → AreRead ps wrong → wrong ≡ None → has_names ps ≡ true → HasNames m xs
  names_of ps wrong read none has = (ps, (is_read ps wrong read none, has))

  pub has_of : (ps : List Placed) (wrong : Option Wrong) → AreRead ps wrong → HasNames m xs → has_names ps ≡ true
  has_of ps wrong read has = subst (λ qs. has_names qs ≡ true) (sym (same_pieces ps has.0 wrong read has.1.0).0) has.1.1
