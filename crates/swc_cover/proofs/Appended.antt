-- What an answer says, said in another way.
use Rattle.std.proofs.Common.{Result, Ok, Err, IfOk}

pub if_ok-as : {Y E : Type 0} (P Q : Y → Type 0) (r : Result Y E) → ((y : Y) → P y → Q y) → IfOk r P → IfOk r Q
if_ok-as P Q (Ok y) f h = f y h
if_ok-as P Q (Err e) f h = h
