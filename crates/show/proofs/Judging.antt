-- What is shown of a list of tokens is judged as what was read of it.
use Rattle.std.proofs.Common.{◌≡◌, ℕ, Bool, true, List, Result, Ok, Err, refl, sym, subst, ◌∙◌}
use Rattle.swc_context.specs.{declared.context.Context.Context, declared.context.EsVersion.EsVersion, declared.context.Syntax.Syntax, declared.error.Error.Error}
use Rattle.swc_input.specs.{declared.token.TokenAndSpan.TokenAndSpan, Listed.new_state, Source.Source}
use Rattle.swc_tokens.specs.Moved.{AreTokensOf}
use Rattle.swc_ast.specs.{Tree.Tree, declared.spanned.Spanned.Ghosts}
use Rattle.swc_grammar.specs.Symbols.{Symbol}
use Rattle.swc_nodes.specs.declared.nodes.Nodes.{Nodes}
use Rattle.swc_ecma_parser.specs.WholeList.{plain_list, IsHeeded, Headline}
use Rattle.show.specs.{declared.counted.Counted.Counted, Counts.counted_forms, Answers.Answers, Answers.IsJudged, Answers.Judged, Answers.Shows, Answers.judged, declared.answer.Shown.Shown}

module _ {N : Type 0} {fg cg kg : Ghosts Counted} (s : Symbol)
    (tree : Nodes Counted Counted Counted fg cg kg → N → Tree Counted Counted Counted)
    (c : Context) (x : Syntax) (ts : List TokenAndSpan) (nodes : Nodes Counted Counted Counted fg cg kg)
    (recorded : List Error) where
  pub judged_of : (read : Result (N × Bool) Error) (shown : Result Shown Error)
      → Headline true counted_forms s tree c x (plain_list ts) read nodes recorded → Shows read shown
      → Judged s c x ts shown recorded
  judged_of (Ok r) (Ok v) h same = record {
    sound = λ whole none. record { tree = tree nodes r.0; reads = h.sound (sym same ∙ whole) none };
    complete = λ d. let found = h.complete refl d.tree d.reads in (same ∙ found.1, found.2);
  }
  judged_of (Ok r) (Err e) h wanting = record { sound = tt; complete = λ d. wanting }
  judged_of (Err e) shown h same =
      subst (λ v. Judged s c x ts v recorded) (sym same) (record {
        sound = tt;
        complete = λ d. h.complete refl d.tree d.reads;
      })

  -- the same where faults are recorded
  pub judged_by : {read : Result (N × Bool) Error} {shown : Result Shown Error} → IsHeeded c x
      → (IsHeeded c x → Headline true counted_forms s tree c x (plain_list ts) read nodes recorded) → Shows read shown
      → Judged s c x ts shown recorded
  judged_by {read} {shown} heeded h shows = judged_of read shown (h heeded) shows

-- what is answered of the tokens of a text, by a source whose list they are
pub answered : {s : Symbol} {c : Context} {x : Syntax} {v : EsVersion} {text : List ℕ} {ts : List TokenAndSpan}
    {source : Source} {shown : Result Shown Error} {recorded : List Error} → AreTokensOf text ts
    → source ≡ new_state ts c x v → IsJudged s source ts shown recorded → IsHeeded c x
    → Answers s c x text shown recorded
answered {s} {ts = ts} {shown = shown} {recorded = recorded} tokens state judges heeded =
    let P : Source → Type 0 = λ z. IsJudged s z ts shown recorded in
    judged tokens (subst P state judges (record { known = refl; clean = refl }) heeded)

-- the error of two refusals that are the same
pub same_error : {A E : Type 0} (r s : Result A E) {d e : E} → r ≡ Err d → s ≡ Err e → r ≡ s → d ≡ e
same_error r s refused again same = cc
