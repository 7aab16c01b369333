-- What a part tells of its answer, passed on.
use Rattle.lane_run.proofs.Words.{Option, Some, None, IfSome, IfNone, IfOk, IfErr, Result, Ok, Err}

pub some_passed : {X : Type 0} (o : Option X) (P Q : X → Type 0) → ((x : X) → P x → Q x) → IfSome o P → IfSome o Q
some_passed None P Q on h = h
some_passed (Some x) P Q on h = on x h

pub none_passed : {X : Type 0} (o : Option X) (P Q : Type 0) → (P → Q) → IfNone o P → IfNone o Q
none_passed None P Q on h = on h
none_passed (Some x) P Q on h = h

pub ok_passed : {X E : Type 0} (r : Result X E) (P Q : X → Type 0) → ((x : X) → P x → Q x) → IfOk r P → IfOk r Q
ok_passed (Ok x) P Q on h = on x h
ok_passed (Err e) P Q on h = h

pub err_passed : {X E F : Type 0} (fault : E → Option F) (r : Result X E) (P Q : F → Type 0) → ((f : F) → P f → Q f) → IfErr r (λ e. IfSome (fault e) P) → IfErr r (λ e. IfSome (fault e) Q)
err_passed fault (Ok x) P Q on h = h
err_passed fault (Err e) P Q on h = some_passed (fault e) P Q on h
