mod Characters
mod Indents
mod Judged
