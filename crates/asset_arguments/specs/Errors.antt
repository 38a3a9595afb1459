-- The exit status with what the parser of arguments answers.
use Rattle.std.specs.Prelude.{ℕ}
use Rattle.clap.specs.declared.error.kind.ErrorKind.{ErrorKind}
use Rattle.clap.specs.declared.error.kind.ErrorKind.TheVariants as ErrorKind'

-- 0 for help and the version, 1 if memory ran out, and 2 for each refusal
unfoldable pub error_status : ErrorKind → ℕ
error_status ErrorKind'.DisplayHelp = 0
error_status ErrorKind'.DisplayVersion = 0
error_status ErrorKind'.OutOfMemory = 1
error_status other = 2
