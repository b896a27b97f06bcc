-- What a step lays into the region buffer.
use Rattle.std.specs.Prelude.{ℕ, List}
use Rattle.plans.specs.Writes.{value_of, laid_in}
use Rattle.running.specs.declared.Op.{Op}
use Rattle.running.specs.declared.Reply.{Reply}
use Rattle.running.specs.declared.Wait.{Wait}
use Rattle.running.specs.Waits.{wait_of}

-- R8.6: the bytes to write lie in the region buffer at their own place in the region, and the rest stays as it was.
abbrev pub laid_for : ℕ → List ℕ → Wait → List ℕ → List ℕ
laid_for key value Wait.Begin region = region
laid_for key value (Wait.Read r) region = region
laid_for key value (Wait.Edit e) region = laid_in key value e region
laid_for key value (Wait.Over answer) region = region

-- R8.6: what the operation waits to have written, with the value that is lent at this step.
abbrev pub laid : Op → List ℕ → List ℕ → List ℕ
laid op region value = laid_for op.key (value_of op.lent value) (wait_of op) region

-- R8.5: "not ready" alters nothing; with any other reply the write that is then asked for is laid (R8.6).
abbrev pub laid_on : Reply → Op → List ℕ → List ℕ → List ℕ
laid_on Reply.Begin op region value = laid op region value
laid_on Reply.Done op region value = laid op region value
laid_on Reply.NotReady op region value = region
laid_on Reply.Failed op region value = laid op region value
