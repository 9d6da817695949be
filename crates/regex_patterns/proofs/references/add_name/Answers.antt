use Rattle.std.proofs.Common.{◌≡◌, ℕ, List, sym, subst, ◌∙◌, true}
use Rattle.std.specs.Prelude.{IfOk, ◌||◌}
use Rattle.std.specs.Str.{bytes_eq}
use Rattle.std.specs.String.{string_bytes}
use Rattle.std.specs.HashSet.{contains_text}
use Rattle.std.proofs.lemmas.Map.Text.{hash_set_updates_text}
use Rattle.regex_patterns.proofs.Bytes.{as-or}
use Rattle.regex_patterns.proofs.references.add_name.Goals as goal
use Rattle.regex_patterns.proofs.references.add_name.Goals.{in-Ok, in-Err}

pub returns : goal.returns
returns c =
    let n = string_bytes c.args.name in
    elim c.match-insert.branch [
      | in-Ok w ↦ subst (λ r. IfOk r (λ u. (q : List ℕ) → contains_text c.insert.new.self q ≡ (bytes_eq n q || contains_text c.args.names.now q)))
          (sym w.result-is)
          (λ q. hash_set_updates_text n c.args.names.now c.insert.new.self true w.in-Ok.ensures.updates q
          ∙ as-or (bytes_eq n q) (contains_text c.args.names.now q))
      | in-Err w ↦ subst (λ r. IfOk r (λ u. (q : List ℕ) → contains_text c.insert.new.self q ≡ (bytes_eq n q || contains_text c.args.names.now q)))
          (sym w.result-is) tt
    ]
