-- How operators are taken and joined, one after another, while others below them wait for their right operands.
use Rattle.std.proofs.Common.{suc, ◌≡◌, ℕ, ◌<◌, Bool, true, false, if◌then◌else◌, List, [], ◌∷◌, ◌++◌, Option, Some, None, refl, sym, ap, subst, ◌∙◌, arith}
use Rattle.std.proofs.lemmas.Bool.{leb-true, leb-false}
use Rattle.std.specs.Prelude.{nat_le, nat_lt}
use Rattle.swc_context.specs.{Operators.precedence_of, declared.error.Error.Error, declared.operator.BinaryOp.BinaryOp, declared.operator.BinaryOp.BinaryOp as binary}
use Rattle.swc_input.specs.{declared.buffer.Buffer.Buffer, declared.token.TokenAndSpan.TokenAndSpan, Source.Model, Buffer.context}
use Rattle.swc_ast.specs.Trees.{exp_ok, nullish_ok, left_ok, min_right}
use Rattle.swc_ast.specs.{Tree.Tree, declared.spanned.Spanned.Ghosts}
use Rattle.swc_bodies.specs.Readings.{Hook}
use Rattle.swc_grammar.specs.Clean.{Out, first, sym as at, climb, run, operator_at}
use Rattle.swc_grammar.specs.{Scope.Scope, Scope.inner, Symbols.Level, Words.◌>>=◌, Words.rest}
use Rattle.swc_nodes.specs.GrowingNodes.{Apart, From, Grows}
use Rattle.swc_nodes.specs.{Pending.operand_parts, Pending.first_operand, Rising.waiting, Rising.least_above, NodeParts.expr_part, declared.node.ExprId.ExprId, declared.nodes.Nodes.Nodes, declared.pending.PendingOperator.PendingOperator}
use Rattle.swc_nodes.proofs.Held.{from-apart, tree-later}
use Rattle.swc_nodes.proofs.Waiting.{apart-rest, least_more, operands-below, operands-last}
use Rattle.swc_input.specs.Calls.{Here, Checks}
use Rattle.swc_steps.specs.Parsing.{seen, tree_of, scope, On, Heard, Unheard}
use Rattle.swc_steps.specs.Readers.{turn, bin_op, bin_op_node, operand, turned}
use Rattle.swc_steps.proofs.Rules as rule
use Rattle.swc_steps.proofs.Steps as s
use Rattle.swc_operators.specs.Pending.{operator_above, operator_taken, joined, join, on_joined, on_operand, through, pending_reads, pending_left, pending_operand}

-- an operator that binds tighter
above_by : (b : Bool) (op by : BinaryOp) → (if b then None else Some op) ≡ Some by → (b ≡ false) × (op ≡ by)
above_by true op by h = absurd cc
above_by false op by h = (refl, cc)

pub above_some : (m : ℕ) (o : Option BinaryOp) (op : BinaryOp) → operator_above m o ≡ Some op
    → (o ≡ Some op) × (m < precedence_of op)
above_some m None op h = absurd cc
above_some m (Some by) op h =
    let (low, same) = above_by (nat_le (precedence_of by) m) by op h in
    (ap Some same, subst (λ v. m < precedence_of v) same (leb-false (precedence_of by) m low))

-- or none
not_above : (b : Bool) (op : BinaryOp) → (if b then None else Some op) ≡ None → b ≡ true
not_above true op h = refl
not_above false op h = cc

-- what was answered of a precedence that is known
pub above_is : {S : Type 0} (model : Model S) (b : Buffer S) {m k : ℕ} {q r : Option BinaryOp} → q ≡ r
    → q ≡ operator_above m (operator_at (context model b) (seen b)) → m ≡ k
    → r ≡ operator_above k (operator_at (context model b) (seen b))
above_is model b h is e = sym h ∙ is ∙ ap (λ v. operator_above v (operator_at (context model b) (seen b))) e

pub binds_tighter : {S : Type 0} (model : Model S) (b : Buffer S) {m : ℕ} {op : BinaryOp}
    → Some op ≡ operator_above m (operator_at (context model b) (seen b)) → m < precedence_of op
binds_tighter model b {m} {op} is = (above_some m (operator_at (context model b) (seen b)) op (sym is)).1

-- any operator binds tighter where nothing waits
above_zero : (op : BinaryOp) → 0 < precedence_of op
above_zero binary.Exp = omega arith
above_zero op = omega arith

pub binds_any : {ws : List PendingOperator} (op : BinaryOp) → ws ≡ [] → least_above 0 ws < precedence_of op
binds_any op h = subst (λ us. least_above 0 us < precedence_of op) (sym h) (above_zero op)

-- operands, where it is known what is pending
module _ {F C K : Type 0} {fg : Ghosts F} {cg : Ghosts C} {kg : Ghosts K} {ns : Nodes F C K fg cg kg} {k : ℕ} where
  pub operands-as : {ws vs : List PendingOperator} (e : ExprId) → ws ≡ vs → Apart k ns (operand_parts ws e)
      → Apart k ns (operand_parts vs e)
  operands-as e h a = subst (λ us. Apart k ns (operand_parts us e)) h a

  pub operands-one : {ws vs : List PendingOperator} (e r : ExprId) (op : BinaryOp) → ws ≡ []
      → vs ≡ ws ++ waiting e op ∷ [] → Apart k ns (expr_part e ∷ expr_part r ∷ []) → Apart k ns (operand_parts vs r)
  operands-one {ws} {vs} e r op h pushed a = operands-as r (sym (pushed ∙ ap (λ us. us ++ waiting e op ∷ []) h)) a

  pub operand-alone : {ws : List PendingOperator} (e : ExprId) → ws ≡ [] → Apart k ns (operand_parts ws e)
      → From k ns (expr_part e)
  operand-alone e h a = from-apart (expr_part e) [] (operands-as e h a)

-- the first operand, where nothing waits, and where one operator does
pub first_none : {ws : List PendingOperator} (e : ExprId) → ws ≡ [] → first_operand ws e ≡ e
first_none e h = ap (λ us. first_operand us e) h

pub first_one : {ws vs : List PendingOperator} (e r : ExprId) (op : BinaryOp) → ws ≡ [] → vs ≡ ws ++ waiting e op ∷ []
    → first_operand vs r ≡ e
first_one e r op h pushed = ap (λ us. first_operand us r) (pushed ∙ ap (λ us. us ++ waiting e op ∷ []) h)

module _ {F C K : Type 0} where
  pub taken_well : (op : BinaryOp) (l : Tree F C K) (x : Scope) (t : TokenAndSpan) (ts : List TokenAndSpan)
      → exp_ok op l ≡ true → operator_taken op l x (t ∷ ts) ≡ Some (tt, ts)
  unfolding operator_taken
  taken_well op l x t ts h = rw h refl

  pub taken_ill : (op : BinaryOp) (l : Tree F C K) (x : Scope) (ts : List TokenAndSpan) → exp_ok op l ≡ false
      → operator_taken op l x ts ≡ None
  unfolding operator_taken
  taken_ill op l x ts h = rw h refl

bind_assoc : {A B D : Type 0} (o : Out A) (f : A → List TokenAndSpan → Out B) (g : B → List TokenAndSpan → Out D)
    → ((o >>= (λ p. f p.0 p.1)) >>= (λ q. g q.0 q.1)) ≡ (o >>= (λ p. f p.0 p.1 >>= (λ q. g q.0 q.1)))
bind_assoc None f g = refl
bind_assoc (Some p) f g = refl

module _ {F C K : Type 0} (hook : Hook F C K) where
  -- ---- one operator

  ends_by : (o : Option BinaryOp) (l : Tree F C K) (m : ℕ) (x : Scope) (ts : List TokenAndSpan)
      → o ≡ operator_at x.context (first ts) → operator_above m o ≡ None → turn hook l m x ts ≡ Some ((l, None), ts)
  ends_by None l m x ts e h = rule.turn_ends hook l m x ts (sym e)
  ends_by (Some op) l m x ts e h =
      rule.turn_low hook l m op x ts (sym e)
      (leb-true (precedence_of op) m (not_above (nat_le (precedence_of op) m) op h))

  -- no operator that binds tighter follows the operand
  pub climb_ends : (l : Tree F C K) (m : ℕ) (x : Scope) (ts : List TokenAndSpan)
      → operator_above m (operator_at x.context (first ts)) ≡ None → run hook (climb l m) x ts ≡ turned hook l None x ts
  climb_ends l m x ts h =
      rule.climb_splits hook l m x ts
      ∙ ap (λ o. o >>= (λ p. turned hook p.0.0 p.0.1 x p.1))
      (ends_by (operator_at x.context (first ts)) l m x ts refl h)

  -- where no assignment expression begins
  bin_op_here : (op : BinaryOp) (l : Tree F C K) (m : ℕ) (x : Scope) (ts : List TokenAndSpan) → x.head ≡ false
      → exp_ok op l ≡ true → bin_op hook op l m x ts
      ≡ (run hook (at (Level (suc (min_right op)))) x ts >>= (λ p. bin_op_node hook op l m p.0 p.1))
  bin_op_here op l m x ts none h =
      rule.bin_op_splits hook op l m x ts h
      ∙ ap (λ y. run hook (at (Level (suc (min_right op)))) y ts >>= (λ p. bin_op_node hook op l m p.0 p.1))
      (s.inner_is x none)

  right_here : (op : BinaryOp) (m : ℕ) (x : Scope) (ts : List TokenAndSpan) → x.head ≡ false → m ≡ min_right op
      → run hook (at (Level (suc (min_right op)))) x ts
      ≡ (operand hook (nat_lt m 7) x ts >>= (λ p. run hook (climb p.0 m) x p.1))
  right_here op m x ts none e =
      rule.right_splits hook op m x ts e
      ∙ ap (λ y. operand hook (nat_lt m 7) x ts >>= (λ p. run hook (climb p.0 m) y p.1)) (s.inner_is x none)

  takes_by : (b : Bool) (op : BinaryOp) (l : Tree F C K) (m : ℕ) (x : Scope) (ts : List TokenAndSpan)
      → x.head ≡ false → exp_ok op l ≡ b → (bin_op hook op l m x (rest ts) >>= (λ p. turned hook p.0.0 p.0.1 x p.1))
      ≡ (operator_taken op l x ts >>= (λ p. on_operand hook op l m x p.1))
  unfolding operator_taken
  takes_by true op l m x ts none h =
      let right = operand hook (nat_lt (min_right op) 7) x (rest ts) in
      rw (h, bin_op_here op l m x (rest ts) none h, right_here op (min_right op) x (rest ts) none refl)
      (bind_assoc (right >>= (λ p. run hook (climb p.0 (min_right op)) x p.1)) (λ t us. bin_op_node hook op l m t us)
      (λ q us. turned hook q.0 q.1 x us))
  takes_by false op l m x ts none h = rw (h, rule.bin_op_ends hook op l m x (rest ts) h) refl

  -- an operator that binds tighter follows
  pub climb_takes : (op : BinaryOp) (l : Tree F C K) (m : ℕ) (x : Scope) (ts : List TokenAndSpan) → x.head ≡ false
      → operator_at x.context (first ts) ≡ Some op → m < precedence_of op
      → run hook (climb l m) x ts ≡ (operator_taken op l x ts >>= (λ p. on_operand hook op l m x p.1))
  climb_takes op l m x ts none h lt =
      rule.climb_splits hook l m x ts
      ∙ ap (λ o. o >>= (λ p. turned hook p.0.0 p.0.1 x p.1)) (rule.turn_takes hook l m op x ts h lt)
      ∙ takes_by (exp_ok op l) op l m x ts none refl

  joins_well : (b : Bool) (op : BinaryOp) (l r : Tree F C K) (m : ℕ) (x : Scope) (ts : List TokenAndSpan)
      → left_ok (joined op l r) ≡ b → turned hook (joined op l r) (Some m) x ts
      ≡ (turned hook (joined op l r) None x ts >>= (λ p. run hook (climb p.0 m) x p.1))
  joins_well true op l r m x ts h =
      rw (rule.turned_well hook (joined op l r) (Some m) x ts h, rule.turned_well hook (joined op l r) None x ts h) refl
  joins_well false op l r m x ts h =
      rw (rule.turned_ill hook (joined op l r) (Some m) x ts h, rule.turned_ill hook (joined op l r) None x ts h) refl

  joins_by : (b : Bool) (op : BinaryOp) (l r : Tree F C K) (m : ℕ) (x : Scope) (ts : List TokenAndSpan)
      → nullish_ok op l r ≡ b
      → on_joined hook op l m r x ts ≡ (join hook op l r x ts >>= (λ p. run hook (climb p.0 m) x p.1))
  unfolding join
  joins_by true op l r m x ts h =
      rw (h, rule.bin_op_well hook op l r m ts h) (joins_well (left_ok (joined op l r)) op l r m x ts refl)
  joins_by false op l r m x ts h = rw (h, rule.bin_op_ill hook op l r m ts h) refl

  -- both operands were read
  pub climb_joins : (op : BinaryOp) (l r : Tree F C K) (m : ℕ) (x : Scope) (ts : List TokenAndSpan)
      → on_joined hook op l m r x ts ≡ (join hook op l r x ts >>= (λ p. run hook (climb p.0 m) x p.1))
  climb_joins op l r m x ts = joins_by (nullish_ok op l r) op l r m x ts refl

  pub join_well : (op : BinaryOp) (l r : Tree F C K) (x : Scope) (ts : List TokenAndSpan) → nullish_ok op l r ≡ true
      → join hook op l r x ts ≡ turned hook (joined op l r) None x ts
  unfolding join
  join_well op l r x ts h = rw h refl

  pub join_ill : (op : BinaryOp) (l r : Tree F C K) (x : Scope) (ts : List TokenAndSpan) → nullish_ok op l r ≡ false
      → join hook op l r x ts ≡ None
  unfolding join
  join_ill op l r x ts h = rw h refl

  -- ---- all that wait

  pub through_push : (tree : ExprId → Tree F C K) (m : ℕ) (ws : List PendingOperator) (w : PendingOperator) (x : Scope)
      (o : Out (Tree F C K)) → through hook tree m (ws ++ w ∷ []) x o
      ≡ through hook tree m ws x (o >>= (λ p. on_joined hook w.op (tree w.left) (least_above m ws) p.0 x p.1))
  through_push tree m [] w x o = refl
  through_push tree m (v ∷ ws) w x o =
      ap (λ u. u >>= (λ p. on_joined hook v.op (tree v.left) m p.0 x p.1)) (through_push tree (min_right v.op) ws w x o)

  through_none : (tree : ExprId → Tree F C K) (m : ℕ) (ws : List PendingOperator) (x : Scope)
      → through hook tree m ws x None ≡ None
  through_none tree m [] x = refl
  through_none tree m (v ∷ ws) x =
      ap (λ u. u >>= (λ p. on_joined hook v.op (tree v.left) m p.0 x p.1)) (through_none tree (min_right v.op) ws x)

  pub reads_none : (tree : ExprId → Tree F C K) (ws : List PendingOperator) (e : ExprId) (x : Scope)
      (ts : List TokenAndSpan) → ws ≡ [] → run hook (climb (tree e) 0) x ts ≡ pending_reads hook tree ws e x ts
  unfolding pending_reads
  reads_none tree ws e x ts h = rw h refl

  -- the left operands keep their trees
  pub through_later : {fg : Ghosts F} {cg : Ghosts C} {kg : Ghosts K} {ns ms : Nodes F C K fg cg kg} {k : ℕ} (m : ℕ)
      (ws : List PendingOperator) (e : ExprId) (x : Scope) (o : Out (Tree F C K)) → Grows ns ms
      → Apart k ns (operand_parts ws e) → through hook (tree_of ns) m ws x o ≡ through hook (tree_of ms) m ws x o
  through_later m [] e x o g a = refl
  through_later {ns = ns} {ms = ms} m (w ∷ ws) e x o g a =
      let same : tree_of ms w.left ≡ tree_of ns w.left =
      tree-later g (from-apart (expr_part w.left) (operand_parts ws e) a) in
      ap (λ u. u >>= (λ p. on_joined hook w.op (tree_of ns w.left) m p.0 x p.1))
      (through_later (min_right w.op) ws e x o g (apart-rest (expr_part w.left) (operand_parts ws e) a))
      ∙ ap (λ t. through hook (tree_of ms) (min_right w.op) ws x o >>= (λ p. on_joined hook w.op t m p.0 x p.1))
      (sym same)

  -- after an operator
  operand_on : (l : Tree F C K) (m : ℕ) (op : BinaryOp) (x : Scope) (ts : List TokenAndSpan)
      → on_operand hook op l m x ts
      ≡ (operand hook (nat_lt (min_right op) 7) x ts
      >>= (λ p. run hook (climb p.0 (min_right op)) x p.1 >>= (λ q. on_joined hook op l m q.0 x q.1)))
  operand_on l m op x ts =
      bind_assoc (operand hook (nat_lt (min_right op) 7) x ts) (λ t us. run hook (climb t (min_right op)) x us)
      (λ t us. on_joined hook op l m t x us)

  -- what waits on top is joined with its operands
  top_joins : (tree : ExprId → Tree F C K) (ws vs : List PendingOperator) (w : PendingOperator) (e : ExprId)
      → ws ≡ vs ++ w ∷ [] → (x : Scope) (ts : List TokenAndSpan) → pending_left hook tree ws e x ts
      ≡ through hook tree 0 vs x (join hook w.op (tree w.left) (tree e) x ts
      >>= (λ p. run hook (climb p.0 (least_above 0 vs)) x p.1))
  top_joins tree ws vs w e popped x ts =
      ap (λ us. through hook tree 0 us x (Some (tree e, ts))) popped
      ∙ through_push tree 0 vs w x (Some (tree e, ts))
      ∙ ap (through hook tree 0 vs x) (climb_joins w.op (tree w.left) (tree e) (least_above 0 vs) x ts)

-- a `#` and a name are free after the operator on top
free_is : {free : Bool} (ws vs : List PendingOperator) (e : ExprId) (op : BinaryOp) → free ≡ nat_lt (least_above 0 vs) 7
    → vs ≡ ws ++ waiting e op ∷ [] → free ≡ nat_lt (min_right op) 7
free_is ws vs e op is pushed =
    is ∙ ap (λ us. nat_lt (least_above 0 us) 7) pushed ∙ ap (λ m. nat_lt m 7) (least_more 0 ws (waiting e op))

-- ---- one step after another

module _ {S F C K : Type 0} {model : Model S} {sure : Bool} (hook : Hook F C K) where
  -- what is read at a buffer, and through all that wait above it
  on_through : {f g : s.Reader (Tree F C K)} {b c : Buffer S} (tree : ExprId → Tree F C K) (m : ℕ)
      (ws : List PendingOperator) → On model sure f g b c
      → On model sure (λ x ts. through hook tree m ws x (f x ts)) (λ x ts. through hook tree m ws x (g x ts)) b c
  on_through {f} {g} {b} {c} tree m ws o = record {
    leads = o.leads;
    clean = λ l e ys k.
        ap (through hook tree m ws (scope model b)) (o.clean l e ys k)
        ∙ ap (λ x. through hook tree m ws x (g (scope model c) ys)) (sym (s.read_scope o.leads.laws o.leads.read));
    faulty = λ y l lt ts k.
        ap (through hook tree m ws (scope model b)) (o.faulty y l lt ts k)
        ∙ through_none hook tree m ws (scope model b);
  }

  unheard_through : {f : s.Reader (Tree F C K)} {b c : Buffer S} {e : Error} (tree : ExprId → Tree F C K) (m : ℕ)
      (ws : List PendingOperator) → Unheard model sure f b e c
      → Unheard model sure (λ x ts. through hook tree m ws x (f x ts)) b e c
  unheard_through {f} {b} tree m ws u = record {
    refuses = u.refuses;
    none = λ n y l ts k.
        ap (through hook tree m ws (scope model b)) (u.none n y l ts k) ∙ through_none hook tree m ws (scope model b);
  }

  -- the operator that is current binds tighter
  takes : {b c : Buffer S} (l : Tree F C K) (m : ℕ) (op : BinaryOp) → Here model b c
      → Some op ≡ operator_above m (operator_at (context model c) (seen c)) → On model sure (run hook (climb l m))
      (λ x ts. operator_taken op l x ts >>= (λ p. on_operand hook op l m x p.1)) b c
  takes {b} {c} l m op here is =
      let a = above_some m (operator_at (context model c) (seen c)) op (sym is) in
      s.on_seen here (λ x ts same e. climb_takes hook op l m x ts (s.no_head same)
      (rule.same_op (operator_at (context model c) (seen c)) (Some op) same e refl a.0) a.1)

  -- what is read after an operand, and through all that wait; the operator that is current is taken
  pub on_taken : {f : s.Reader (Tree F C K)} {a b c d : Buffer S} (tree : ExprId → Tree F C K)
      (ws : List PendingOperator) (e : ExprId) (op : BinaryOp) → On model sure f (pending_reads hook tree ws e) a b
      → Here model b c → Some op ≡ operator_above (least_above 0 ws) (operator_at (context model c) (seen c))
      → Heard model sure (operator_taken op (tree e)) tt c d → On model sure f (pending_operand hook tree ws e op) a d
  unfolding pending_reads
  on_taken tree ws e op o here is took =
      let m = least_above 0 ws in
      s.on_then o (on_through tree 0 ws (s.on_then (takes (tree e) m op here is)
      (s.on_call (λ x p. on_operand hook op (tree e) m x p.1) (λ x ts. refl) took.on)))

  pub unheard_taken : {f : s.Reader (Tree F C K)} {a b c d : Buffer S} {r : Error} (tree : ExprId → Tree F C K)
      (ws : List PendingOperator) (e : ExprId) (op : BinaryOp) → On model sure f (pending_reads hook tree ws e) a b
      → Here model b c → Some op ≡ operator_above (least_above 0 ws) (operator_at (context model c) (seen c))
      → Unheard model sure (operator_taken op (tree e)) c r d → Unheard model sure f a r d
  unfolding pending_reads
  unheard_taken tree ws e op o here is u =
      let m = least_above 0 ws in
      s.unheard_after o (unheard_through tree 0 ws (s.unheard_after (takes (tree e) m op here is)
      (s.unheard_call (λ x p. on_operand hook op (tree e) m x p.1) (λ x ts. refl) u)))

  -- its right operand is read, and the operator waits
  pub on_read : {fg : Ghosts F} {cg : Ghosts C} {kg : Ghosts K} {ns ms : Nodes F C K fg cg kg} {k : ℕ}
      {f : s.Reader (Tree F C K)} {a b c : Buffer S} {free : Bool} (ws vs : List PendingOperator) (e r : ExprId)
      (op : BinaryOp) → free ≡ nat_lt (least_above 0 vs) 7
      → vs ≡ ws ++ waiting e op ∷ [] → On model sure f (pending_operand hook (tree_of ns) ws e op) a b
      → Heard model sure (operand hook free) (tree_of ms r) b c → Grows ns ms → Apart k ns (operand_parts ws e)
      → On model sure f (pending_reads hook (tree_of ms) vs r) a c
  unfolding pending_reads
  on_read {ns = ns} {ms = ms} {b = b} {c = c} ws vs e r op free pushed o read g apart =
      let m = least_above 0 ws in
      let t = tree_of ms r in
      let l = tree_of ns e in
      let same : tree_of ms e ≡ l = tree-later g (operands-last ws e apart) in
      let goes = λ (x : Scope) (p : Tree F C K × List TokenAndSpan).
      run hook (climb p.0 (min_right op)) x p.1 >>= (λ q. on_joined hook op l m q.0 x q.1) in
      s.on_to
      (s.on_then o (on_through (tree_of ns) 0 ws (s.on_call goes (λ x ts. operand_on hook l m op x ts)
      (subst (λ v. Heard model sure (operand hook v) t b c) (free_is ws vs e op free pushed) read).on)))
      (λ x ts.
      ap (λ u. through hook (tree_of ns) 0 ws x
      (run hook (climb t (min_right op)) x ts >>= (λ q. on_joined hook op u m q.0 x q.1)))
      (sym same)
      ∙ through_later hook 0 ws e x _ g apart
      ∙ sym (through_push hook (tree_of ms) 0 ws (waiting e op) x (run hook (climb t (min_right op)) x ts))
      ∙ ap (λ v. through hook (tree_of ms) 0 (ws ++ waiting e op ∷ []) x (run hook (climb t v) x ts))
      (sym (least_more 0 ws (waiting e op)))
      ∙ ap (λ us. pending_reads hook (tree_of ms) us r x ts) (sym pushed))

  pub unheard_read : {f : s.Reader (Tree F C K)} {a b c : Buffer S} {x : Error} {free : Bool}
      (tree : ExprId → Tree F C K) (ws vs : List PendingOperator) (e : ExprId) (op : BinaryOp)
      → free ≡ nat_lt (least_above 0 vs) 7 → vs ≡ ws ++ waiting e op ∷ []
      → On model sure f (pending_operand hook tree ws e op) a b → Unheard model sure (operand hook free) b x c
      → Unheard model sure f a x c
  unheard_read {b = b} {c = c} {x = x} tree ws vs e op free pushed o u =
      let m = least_above 0 ws in
      let goes = λ (x : Scope) (p : Tree F C K × List TokenAndSpan).
      run hook (climb p.0 (min_right op)) x p.1 >>= (λ q. on_joined hook op (tree e) m q.0 x q.1) in
      s.unheard_after o (unheard_through tree 0 ws (s.unheard_call goes (λ x ts. operand_on hook (tree e) m op x ts)
      (subst (λ v. Unheard model sure (operand hook v) b x c) (free_is ws vs e op free pushed) u)))

  -- no operator that is current belongs to the operand
  pub on_left : {f : s.Reader (Tree F C K)} {a b c d : Buffer S} (tree : ExprId → Tree F C K)
      (ws : List PendingOperator) (e : ExprId) → On model sure f (pending_reads hook tree ws e) a b
      → Here model b c → None ≡ operator_above (least_above 0 ws) (operator_at (context model c) (seen c))
      → Checks model (left_ok (tree e)) c d → On model sure f (pending_left hook tree ws e) a d
  unfolding pending_reads
  on_left {c = c} tree ws e o here is checks =
      let m = least_above 0 ws in
      s.on_then o (on_through tree 0 ws (s.on_then
      (s.on_seen {g = turned hook (tree e) None} here (λ x ts same k. climb_ends hook (tree e) m x ts
      (ap (operator_above m) (rule.same_op (operator_at (context model c) (seen c)) _ same k refl refl) ∙ sym is)))
      (s.on_checked (left_ok (tree e)) checks (λ x ts h. rule.turned_well hook (tree e) None x ts h)
      (λ x ts h. rule.turned_ill hook (tree e) None x ts h))))

  -- the operator on top is joined with its operands
  pub on_join : {fg : Ghosts F} {cg : Ghosts C} {kg : Ghosts K} {ns ms : Nodes F C K fg cg kg} {k : ℕ}
      {f : s.Reader (Tree F C K)} {a b c : Buffer S} (ws vs : List PendingOperator) (w : PendingOperator) (e n : ExprId)
      → ws ≡ vs ++ w ∷ [] → On model sure f (pending_left hook (tree_of ns) ws e) a b
      → On model sure (join hook w.op (tree_of ns w.left) (tree_of ns e)) (s.give (tree_of ms n)) b c → Grows ns ms
      → Apart k ns (operand_parts ws e) → On model sure f (pending_reads hook (tree_of ms) vs n) a c
  unfolding pending_reads
  on_join {ns = ns} {ms = ms} {k = k} ws vs w e n popped o made g apart =
      let m = least_above 0 vs in
      let below = operands-below vs w e (subst (λ us. Apart k ns (operand_parts us e)) popped apart) in
      s.on_to (s.on_then (s.on_to o (top_joins hook (tree_of ns) ws vs w e popped))
      (on_through (tree_of ns) 0 vs (s.on_call (λ x p. run hook (climb p.0 m) x p.1) (λ x ts. refl) made)))
      (λ x ts. through_later hook 0 vs w.left x (run hook (climb (tree_of ms n) m) x ts) g below)

  pub unheard_join : {f : s.Reader (Tree F C K)} {a b c : Buffer S} {x : Error} (tree : ExprId → Tree F C K)
      (ws vs : List PendingOperator) (w : PendingOperator) (e : ExprId) → ws ≡ vs ++ w ∷ []
      → On model sure f (pending_left hook tree ws e) a b
      → Unheard model sure (join hook w.op (tree w.left) (tree e)) b x c → Unheard model sure f a x c
  unheard_join tree ws vs w e popped o u =
      let m = least_above 0 vs in
      s.unheard_after (s.on_to o (top_joins hook tree ws vs w e popped))
      (unheard_through tree 0 vs (s.unheard_call (λ x p. run hook (climb p.0 m) x p.1) (λ x ts. refl) u))

  -- where nothing waits, that is all
  pub on_all : {f : s.Reader (Tree F C K)} {a b : Buffer S} (tree : ExprId → Tree F C K) (ws : List PendingOperator)
      (e : ExprId) → ws ≡ [] → On model sure f (pending_left hook tree ws e) a b → On model sure f (s.give (tree e)) a b
  on_all tree ws e h o = s.on_to o (λ x ts. ap (λ us. through hook tree 0 us x (Some (tree e, ts))) h)

  -- ---- the first operand

  pub unheard_operand : {b c d : Buffer S} {e : Error} → Here model b c → Unheard model sure (operand hook true) c e d
      → Unheard model sure (run hook (at (Level 1))) b e d
  unheard_operand here u =
      s.unheard_after (s.on_seen {g = run hook (at (Level 1))} here (λ x ts same e. refl))
      (s.unheard_call (λ x p. run hook (climb p.0 0) (inner x) p.1)
      (λ x ts. rule.operand_splits hook 0 x ts (omega arith)) u)
