use Rattle.std.proofs.Common.{sym, ap, subst, ◌∙◌}
use Rattle.swc_context.specs.declared.operator.AssignOp.{AssignOp, AssignOp as write}
use Rattle.swc_ast.specs.{Targets.is_target, Tree.Tree}
use Rattle.swc_grammar.specs.Cover.{is_pattern}
use Rattle.swc_steps.proofs.Refused.{err_is}
use Rattle.swc_cover.specs.{Clear.is_clear, PatTypes.verdict_as, PatTypes.want_as, declared.pat_type.PatType.TheVariants.AssignPat}
use Rattle.swc_cover.proofs.Kept.{none-kept}
use Rattle.swc_steps.specs.Parsing.{behind, On, scope, tree_of}
use Rattle.swc_steps.proofs.Steps as s
use Rattle.swc_operators.specs.Assignments.{assign_by, assign_tail}
use Rattle.swc_operators.proofs.Assignments as assign
use Rattle.swc_operators.proofs.Targets.{pattern_target, simple_target, want_pattern}
use Rattle.swc_operators.proofs.assign.assign_target.Goals as goal

pub returns-in_err-check_assign_target-clause-rewrites : goal.returns-in_err-check_assign_target-clause-rewrites
returns-in_err-check_assign_target-clause-rewrites g c =
    let l = tree_of c.args.p.now.nodes c.args.left in
    let op = c.args.op in
    let x = scope g.I.Tokens.model c.args.p.now.input in
    let h = c.in_err-check_assign_target.ensures.refuses in
    let simple = sym c.refines.ensures ∙ c.if-not-refines.true in
    rw (err_is c.from_residual.ensures.1) (record {
      reads = record {
        refuses = h.0;
        none = λ m sure loud ts k. assign.by_simple_node _ op l x ts simple ∙ assign.assign_ill _ op l x ts (h.1 m);
      };
      falls = tt;
      kept = none-kept c.requires.from;
      from = tt;
    })

pub returns-then-not-refines-clause-rewrites : goal.returns-then-not-refines-clause-rewrites
returns-then-not-refines-clause-rewrites g c =
    let l = tree_of c.args.p.now.nodes c.args.left in
    let op = c.args.op in
    let x = scope g.I.Tokens.model c.args.p.now.input in
    let checked = c.in_ok-check_assign_target.ensures in
    let simple = sym c.refines.ensures ∙ c.if-not-refines.true in
    record {
      reads = s.on_checked_in {g = behind (assign_tail _ op l)} (is_target x.context.strict l) checked.checks
          (λ ts w. assign.by_simple_node _ op l x ts simple ∙ assign.assign_well _ op l x ts w)
          (λ ts w. assign.by_simple_node _ op l x ts simple ∙ assign.assign_ill _ op l x ts w);
      falls = checked.falls;
      kept = none-kept c.requires.from;
      from = simple_target c.args.left checked.target;
    }

pub returns-in_err-pat-clause-rewrites : goal.returns-in_err-pat-clause-rewrites
returns-in_err-pat-clause-rewrites g c =
    let r = c.from_residual-in_err-pat in
    let l = tree_of c.args.p.now.nodes c.args.left in
    let op = c.args.op in
    let x = scope g.I.Tokens.model c.args.p.now.input in
    let h = c.in_err-pat.ensures in
    let refined = sym c.refines.ensures ∙ c.if-not-refines.false in
    rw (err_is r.ensures.1) (record {
      reads = record {
        refuses = h.unrefined.refuses.refuses;
        none = λ m sure loud ts k.
            assign.by_pattern_node _ op l x ts refined ∙ assign.refined_ill _ l x ts (h.unclear m);
      };
      falls = tt;
      kept = h.unrefined.kept;
      from = tt;
    })

pub returns-clause-rewrites : goal.returns-clause-rewrites
returns-clause-rewrites g c =
    let l = tree_of c.args.p.now.nodes c.args.left in
    let op = c.args.op in
    let x = scope g.I.Tokens.model c.args.p.now.input in
    let h = c.in_ok-pat.ensures in
    let refined = sym c.refines.ensures ∙ c.if-not-refines.false in
    let is = assign.refining_op op l refined in
    let hook = g.B.BodyForms.forms in
    let Reads : AssignOp → Tree _ _ _ → Type 0 = λ o t.
    On g.I.Tokens.model g.B.Bodies.is_faithful (assign_by hook op l) (behind (assign_tail hook o t))
    c.args.p.now.input c.reparse_expr_as_pat.new.p.input in
    let read : Reads write.Assign (want_as AssignPat l) =
    s.on_checked_in (is_clear (verdict_as x.context.strict AssignPat l)) h.exact
    (λ ts w. assign.by_pattern_node _ op l x ts refined ∙ assign.refined_well _ l x ts w)
    (λ ts w. assign.by_pattern_node _ op l x ts refined ∙ assign.refined_ill _ l x ts w) in
    record {
      reads = subst (λ t. Reads op t) (sym h.refined.made.stands)
          (subst (λ o. Reads o (want_as AssignPat l)) (sym is.1) read);
      falls = h.falls;
      kept = h.refined.kept;
      from = pattern_target c.in_ok-pat.pat h.refined.made.from
          (ap is_pattern h.refined.made.stands ∙ want_pattern l is.2);
    }

pub returns-clause-plain : goal.returns-clause-plain
returns-clause-plain g c =
    let l = tree_of c.args.p.now.nodes c.args.left in
    (assign.refining_op c.args.op l (sym c.refines.ensures ∙ c.if-not-refines.false)).0
