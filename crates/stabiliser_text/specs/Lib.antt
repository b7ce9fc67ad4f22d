pub mod StabiliserText
